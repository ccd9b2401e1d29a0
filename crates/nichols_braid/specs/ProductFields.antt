-- The fields of a product, from its list of images.
use Rattle.std.specs.Prelude.{◌≡◌, ℕ, ◌-◌, List, ◌++◌, length, take, replicate}
use Rattle.nichols_tensor.specs.Inline.{IsInline, fields_kept}
use Rattle.nichols_braid.specs.declared.product.Product.TheInside.{Inside}
use Rattle.nichols_braid.specs.declared.product.TheConstants.{ROOM}
use Rattle.nichols_braid.specs.Product.{IsProduct}

-- the fields that a list of images has
abbrev pub fields_of : List ℕ → Inside
fields_of g = record { letters = length g; images = g ++ replicate (ROOM - length g) 0 }

pub fields_back : (p : Inside) → IsInline ROOM IsProduct p.letters p.images → fields_of (take p.letters p.images) ≡ p
fields_back p h = fields_kept (λ n (xs : List ℕ). record { letters = n; images = xs }) ROOM IsProduct p.letters p.images h
