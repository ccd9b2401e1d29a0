-- The keys of a top table rise by their bytes, whatever the document: a key is put at its place in the order, and never moved.
use Rattle.std.proofs.Common.{◌≡◌, ℕ, zero, suc, Bool, true, false, cond, Ordering, Less, Equal, Greater, nat_cmp, is_eq, List, [], ◌∷◌, ◌++◌, length, Option, Some, None, option_map, option_and_then, refl, ap, ◌∙◌, subst, inl, inr}
use Rattle.std.proofs.lemmas.Bool.{cases_Bool}
use Rattle.std.proofs.lemmas.Cmp.{nat_list_cmp_total}
use Rattle.std.proofs.lemmas.Option.{none-some, same_Some, option_and_then_some}
use Rattle.std.specs.Cmp.Lexicographic.{slice_cmp}
use Rattle.std.specs.List.{AllByRecursion}
use Rattle.std.specs.List.Sorted.{IsStrictlySortedBy}
use Rattle.std.specs.Ordering.{match_ordering, ordering_reverse}
use Rattle.std.specs.Str.{is_utf8}
use Rattle.nichols_input.specs.Document.{keys_in, table_in}
use Rattle.toml.specs.Data.{Members}
use Rattle.toml.specs.Parse.{lines, skip_bom, parse_document}
use Rattle.toml.specs.Tables.{implicit, dotted, Node, Nodes, no_nodes, node, open_table, get_node, insert, replace, close, Edit, header_node, dot_node, by_header, by_dot, along_header, along_dots, Definition, Expression, key_value, std_table, array_table, new_node, redefine, at_found, at_key, put, Document, define_as, define}
use Rattle.toml.proofs.Blanks.{below}
use Rattle.toml.proofs.Filled.{KeysAbove}

-- ---- keys that rise, while a document is read

abbrev Rise : Nodes → Type 0
Rise no_nodes = Unit {0}
Rise (node k x ns) = KeysAbove ns k × Rise ns

above_earlier : (ns : Nodes) (j k : List ℕ) → below j k → KeysAbove ns k → KeysAbove ns j
above_earlier no_nodes j k order h = tt
above_earlier (node l x ns) j k order h = (nat_list_cmp_total.trans j k l order h.0, above_earlier ns j k order h.1)

above_inserted_by : (o : Ordering) (j : List ℕ) (z : Node) (ns : Nodes) (k l : List ℕ) (y : Node) → below k l → KeysAbove (node j z ns) k → KeysAbove (insert l y ns) k
    → KeysAbove (match_ordering o (node l y (node j z ns)) (node j y ns) (node j z (insert l y ns))) k
above_inserted_by Less j z ns k l y order h more = (order, h)
above_inserted_by Equal j z ns k l y order h more = h
above_inserted_by Greater j z ns k l y order h more = (h.0, more)

above_inserted : (ns : Nodes) (k l : List ℕ) (y : Node) → below k l → KeysAbove ns k → KeysAbove (insert l y ns) k
above_inserted no_nodes k l y order h = (order, tt)
above_inserted (node j z ns) k l y order h = above_inserted_by (slice_cmp nat_cmp l j) j z ns k l y order h (above_inserted ns k l y order h.1)

inserted_by : (o : Ordering) (k l : List ℕ) (x y : Node) (ns : Nodes) → slice_cmp nat_cmp k l ≡ o → Rise (node l y ns) → Rise (insert k x ns)
    → Rise (match_ordering o (node k x (node l y ns)) (node l x ns) (node l y (insert k x ns)))
inserted_by Less k l x y ns is h more = ((is, above_earlier ns k l is h.0), h)
inserted_by Equal k l x y ns is h more = h
inserted_by Greater k l x y ns is h more = (above_inserted ns l k x (nat_list_cmp_total.antisymm l k ∙ ap ordering_reverse is) h.0, more)

inserted : (ns : Nodes) (k : List ℕ) (x : Node) → Rise ns → Rise (insert k x ns)
inserted no_nodes k x h = (tt, tt)
inserted (node l y ns) k x h = inserted_by (slice_cmp nat_cmp k l) k l x y ns refl h (inserted ns k x h.1)

above_replaced : (ns : Nodes) (k l : List ℕ) (y : Node) → KeysAbove ns k → KeysAbove (replace l y ns) k
above_replaced no_nodes k l y h = tt
above_replaced (node j z ns) k l y h =
    elim (cases_Bool (is_eq (slice_cmp nat_cmp l j))) [
      | inl same ↦ rw same h
      | inr other ↦ rw other (h.0, above_replaced ns k l y h.1)
    ]

replaced : (ns : Nodes) (k : List ℕ) (x : Node) → Rise ns → Rise (replace k x ns)
replaced no_nodes k x h = tt
replaced (node l y ns) k x h =
    elim (cases_Bool (is_eq (slice_cmp nat_cmp k l))) [
      | inl same ↦ rw same h
      | inr other ↦ rw other (above_replaced ns l k x h.0, replaced ns k x h.1)
    ]

-- ---- edits keep that

abbrev Keeps : Edit → Type 0
Keeps edit = (ns result : Nodes) → Rise ns → edit ns ≡ Some result → Rise result

mapped : {A : Type 0} (f : A → Nodes) (o : Option A) (result : Nodes) → ((x : A) → Rise (f x)) → option_map f o ≡ Some result → Rise result
mapped f None result each e = absurd (none-some result e)
mapped f (Some x) result each e = subst Rise (same_Some (f x) result e) (each x)

by_found : (k : List ℕ) (what : Definition) (ns result : Nodes) (o : Option Node) → Rise ns → at_found k what ns o ≡ Some result → Rise result
by_found k what ns result None h e = subst Rise (same_Some (insert k (new_node what) ns) result e) (inserted ns k (new_node what) h)
by_found k what ns result (Some x) h e = mapped (λ y. replace k y ns) (redefine what x) result (λ y. replaced ns k y h) e

at_key_keeps : (k : List ℕ) (what : Definition) → Keeps (at_key k what)
unfolding at_key
at_key_keeps k what ns result h e = by_found k what ns result (get_node k ns) h e

header_keeps : (k : List ℕ) (edit : Edit) (ns result : Nodes) (o : Option Node) → Rise ns → by_header k edit ns o ≡ Some result → Rise result
header_keeps k edit ns result None h e = mapped (λ new. insert k (open_table implicit new) ns) (edit no_nodes) result (λ new. inserted ns k (open_table implicit new) h) e
header_keeps k edit ns result (Some x) h e = mapped (λ new. replace k new ns) (header_node edit x) result (λ new. replaced ns k new h) e

dot_keeps : (k : List ℕ) (edit : Edit) (ns result : Nodes) (o : Option Node) → Rise ns → by_dot k edit ns o ≡ Some result → Rise result
dot_keeps k edit ns result None h e = mapped (λ new. insert k (open_table dotted new) ns) (edit no_nodes) result (λ new. inserted ns k (open_table dotted new) h) e
dot_keeps k edit ns result (Some x) h e = mapped (λ new. replace k new ns) (dot_node edit x) result (λ new. replaced ns k new h) e

along_header_keeps : (path : List (List ℕ)) (edit : Edit) → Keeps edit → Keeps (along_header path edit)
unfolding along_header
along_header_keeps [] edit keeps ns result h e = keeps ns result h e
along_header_keeps (k ∷ path) edit keeps ns result h e = header_keeps k (along_header path edit) ns result (get_node k ns) h e

along_dots_keeps : (path : List (List ℕ)) (edit : Edit) → Keeps edit → Keeps (along_dots path edit)
unfolding along_dots
along_dots_keeps [] edit keeps ns result h e = keeps ns result h e
along_dots_keeps (k ∷ path) edit keeps ns result h e = dot_keeps k (along_dots path edit) ns result (get_node k ns) h e

-- ---- so lines do

paired : (o : Option Nodes) (section : List (List ℕ)) (next : Document) → ((root : Nodes) → o ≡ Some root → Rise root) → option_map (λ root. (root, section)) o ≡ Some next → Rise next.0
paired None section next each e = absurd (none-some next e)
paired (Some root) section next each e = subst (λ (d : Document). Rise d.0) (same_Some {A = Document} (root, section) next e) (each root refl)

defined_as : (doc next : Document) (path : List (List ℕ)) (last : List ℕ) (what : Definition) → Rise doc.0 → define_as doc (path, last) what ≡ Some next → Rise next.0
defined_as doc next path last (key_value d) h e =
    paired (along_header doc.1 (put (path, last) d) doc.0) doc.1 next
    (λ root is. along_header_keeps doc.1 (put (path, last) d) (along_dots_keeps path (at_key last (key_value d)) (at_key_keeps last (key_value d))) doc.0 root h is) e
defined_as doc next path last std_table h e =
    paired (along_header path (at_key last std_table) doc.0) (path ++ last ∷ []) next (λ root is. along_header_keeps path (at_key last std_table) (at_key_keeps last std_table) doc.0 root h is) e
defined_as doc next path last array_table h e =
    paired (along_header path (at_key last array_table) doc.0) (path ++ last ∷ []) next (λ root is. along_header_keeps path (at_key last array_table) (at_key_keeps last array_table) doc.0 root h is) e

defined : (doc next : Document) (x : Expression) → Rise doc.0 → define doc x ≡ Some next → Rise next.0
unfolding define
defined doc next x h e = defined_as doc next x.0.0 x.0.1 x.1 h e

after_line : (n : ℕ) (doc end : Document) (o : Option (Expression × List ℕ)) → Rise doc.0 → ((next : Document) (text : List ℕ) → Rise next.0 → lines n next text ≡ Some end → Rise end.0)
    → option_and_then (λ x. option_and_then (λ next. lines n next x.1) (define doc x.0)) o ≡ Some end → Rise end.0
after_line n doc end None h later e = absurd (none-some end e)
after_line n doc end (Some x) h later e = option_and_then_some (λ next. lines n next x.1) (define doc x.0) end e (λ next is more. later next x.1 (defined doc next x.0 h is) more)

lines_keep : (n : ℕ) (doc end : Document) (text : List ℕ) → Rise doc.0 → lines n doc text ≡ Some end → Rise end.0
unfolding lines
lines_keep zero doc end text h e = absurd (none-some end e)
lines_keep (suc n) doc end text h e = by_end _ _ (λ next more. lines_keep n next end more) e
  where
    by_end : (b : Bool) (o : Option (Expression × List ℕ)) → ((next : Document) (more : List ℕ) → Rise next.0 → lines n next more ≡ Some end → Rise end.0)
        → cond b (Some doc) (option_and_then (λ x. option_and_then (λ next. lines n next x.1) (define doc x.0)) o) ≡ Some end → Rise end.0
    by_end true o later e = subst (λ (d : Document). Rise d.0) (same_Some doc end e) h
    by_end false o later e = after_line n doc end o h later e

-- ---- the keys of the table

keys_after : (ns : Nodes) (k : List ℕ) → KeysAbove ns k → AllByRecursion (λ l. slice_cmp nat_cmp k l ≡ Less) (keys_in (close ns))
keys_after no_nodes k h = tt
keys_after (node l x ns) k h = (h.0, keys_after ns k h.1)

keys_rise : (ns : Nodes) → Rise ns → IsStrictlySortedBy (slice_cmp nat_cmp) (keys_in (close ns))
unfolding IsStrictlySortedBy
keys_rise no_nodes h = tt
keys_rise (node k x ns) h = (keys_after ns k h.0, keys_rise ns h.1)

closed : (o : Option Document) (ms : Members) → ((doc : Document) → o ≡ Some doc → Rise doc.0) → option_map (λ doc. close doc.0) o ≡ Some ms → IsStrictlySortedBy (slice_cmp nat_cmp) (keys_in ms)
closed None ms each e = absurd (none-some ms e)
closed (Some doc) ms each e = subst (λ m. IsStrictlySortedBy (slice_cmp nat_cmp) (keys_in m)) (same_Some (close doc.0) ms e) (keys_rise doc.0 (each doc refl))

parsed_keys_rise : (bytes : List ℕ) (ms : Members) → parse_document bytes ≡ Some ms → IsStrictlySortedBy (slice_cmp nat_cmp) (keys_in ms)
unfolding parse_document
parsed_keys_rise bytes ms e = closed (lines (suc (length bytes)) (no_nodes, []) (skip_bom bytes)) ms (λ doc is. lines_keep (suc (length bytes)) (no_nodes, []) doc (skip_bom bytes) tt is) e

pub table_keys_rise : (bytes : List ℕ) (ms : Members) → table_in bytes ≡ Some ms → IsStrictlySortedBy (slice_cmp nat_cmp) (keys_in ms)
unfolding table_in
table_keys_rise bytes ms e = by_utf8 (is_utf8 bytes) e
  where
    by_utf8 : (b : Bool) → cond b (parse_document bytes) None ≡ Some ms → IsStrictlySortedBy (slice_cmp nat_cmp) (keys_in ms)
    by_utf8 true is = parsed_keys_rise bytes ms is
    by_utf8 false is = absurd (none-some ms is)
