use Rattle.std.proofs.Common.{◌≡◌, inl, inr, ℕ, ◌<◌, List, length, get_or, refl, sym, ap, ◌∙◌, subst, arith, rules}
use Rattle.std.specs.Prelude.{◌⊎◌}
use Rattle.std.proofs.lemmas.List.{get_or_read_under}
use Rattle.nichols_core.specs.declared.edge.Edge.{Edge}
use Rattle.nichols_core.specs.Layout.{LayoutValue, IsLayout, no_edge, edge_at}
use Rattle.nichols_core.proofs.EdgesFound.{into_found}
use Rattle.nichols_core.proofs.Entries.{no_entry}
use Rattle.nichols_core.proofs.layout.Layout.edge_into.Goals as goal

-- what was read is the layout's edge with that number
edge_is : (xs es : List Edge) (n : ℕ) (e : Edge) → e ≡ get_or xs n e → xs ≡ es → n < length es → e ≡ edge_at es n
edge_is xs es n e read same inside =
    get_or_read_under xs n (length xs) e no_edge read (subst (λ ys. n < length ys) (sym same) inside) refl
    ∙ ap (λ ys. edge_at ys n) same

differs : {A B : Type 0} → ((A × (B → ⊥)) ⊎ (A → ⊥)) → A → B → ⊥
differs (inl h) a b = h.1 b
differs (inr h) a b = h a

pub returns-then-number-len : goal.returns-then-number-len
returns-then-number-len c =
    let n = c.entries_before-number.result in
    let number = c.entries_before-number.ensures in
    let rules_of = subst IsLayout c.self.view_is c.self.invariant in
    let all : n ≡ length c.args.self.now.edges = search rules in
    sym (no_entry c.args.self.now rules_of c.args.block c.args.letter n number.before number.rest (λ is. let within = is.inside in absurd (omega arith)))

pub returns-then-edge-letter : goal.returns-then-edge-letter
returns-then-edge-letter c =
    let n = c.entries_before-number.result in
    let rules_of = subst IsLayout c.self.view_is c.self.invariant in
    let same = ap (λ (l : LayoutValue). l.edges) c.self.view_is in
    let inside : n < length c.args.self.now.edges = search rules in
    let found = sym (edge_is c.self.inside.edges.items c.args.self.now.edges n c.index-edge.result.now c.index-edge.ensures same inside) in
    sym (into_found c.args.self.now rules_of c.args.block c.args.letter n
    (record { inside = inside; upper = ap (λ (e : Edge). e.upper) found ∙ c.if-edge-block.true; letter = ap (λ (e : Edge). e.letter) found ∙ c.if-edge-letter.true }))

pub returns-else-edge-block : goal.returns-else-edge-block
returns-else-edge-block c =
    let n = c.entries_before-number.result in
    let number = c.entries_before-number.ensures in
    let rules_of = subst IsLayout c.self.view_is c.self.invariant in
    let same = ap (λ (l : LayoutValue). l.edges) c.self.view_is in
    sym (no_entry c.args.self.now rules_of c.args.block c.args.letter n number.before number.rest
    (λ is.
    let read = edge_is c.self.inside.edges.items c.args.self.now.edges n c.index-edge.result.now c.index-edge.ensures same is.inside in
    differs c.else-edge-block.either (ap (λ (e : Edge). e.upper) read ∙ is.upper) (ap (λ (e : Edge). e.letter) read ∙ is.letter)))
