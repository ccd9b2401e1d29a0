-- What was taken, one text after the other.
use Rattle.std.proofs.Common.{◌≡◌, ◌≢◌, ℕ, ◌+◌, ◌<◌, List, [], ◌∷◌, ◌++◌, length, take, refl, sym, ◌∙◌, ap, append_assoc, append-nil, arith, length-append, subst, Some, None}
use Rattle.std.proofs.KnownBytes.{Appends-nil, Appends-trans}
use Rattle.std.specs.Prelude.{Option, Result, Err}
use Rattle.std.specs.Option.{option_or}
use Rattle.std.proofs.Math.Seq.{take-append-add}
use Rattle.std.proofs.lemmas.List.{take-append-le}
use Rattle.std.specs.Io.KnownBytes.{Appends}
use Rattle.nichols_braid.proofs.Search.{or_assoc}
use Rattle.nichols_io.specs.Bytes.{AppendsProperPrefix}
use Rattle.nichols_io.specs.Counts.{Rose}
use Rattle.nichols_top.specs.Report.{Piece, piece, text_of, last_degree}
use Rattle.nichols_top.specs.Written.{Seen, Took, Failed, Written, Takes, BreaksIn, fault, no_memory}
use Rattle.nichols_top.specs.declared.writer.Break.{Break}
use Rattle.nichols_top.specs.declared.writer.Break.TheVariants.{Fault, Memory}

-- ---- bytes

-- a whole text, and then a proper prefix of the next
prefix_more : (a b c : Option (List ℕ)) (xs ys : List ℕ) → Appends a b xs → AppendsProperPrefix b c ys → AppendsProperPrefix a c (xs ++ ys)
prefix_more a b c xs ys p q =
    (length xs + q.0, omega (arith, length-append xs ys, q.1), subst (Appends a c) (sym (take-append-add xs ys q.0)) (Appends-trans a b c xs (take q.0 ys) p q.2))

-- a proper prefix of the first text is one of both
prefix_first : (a b : Option (List ℕ)) (xs ys : List ℕ) → AppendsProperPrefix a b xs → AppendsProperPrefix a b (xs ++ ys)
prefix_first a b xs ys q = (q.0, omega (arith, length-append xs ys, q.1), subst (Appends a b) (sym (take-append-le q.0 xs ys (let h : q.0 < length xs = q.1 in omega arith))) q.2)

-- ---- texts

took_nothing : {a : Seen} → Took [] a a
took_nothing {a} = record { bytes = Appends-nil a.taken; kept = refl }

pub took_more : {xs ys : List ℕ} {a b c : Seen} → Took xs a b → Took ys b c → Took (xs ++ ys) a c
took_more {xs} {ys} {a} {b} {c} p q = record { bytes = Appends-trans a.taken b.taken c.taken xs ys p.bytes q.bytes; kept = q.kept ∙ p.kept }

pub failed_more : {xs ys : List ℕ} {a b c : Seen} → Took xs a b → Failed ys b c → Failed (xs ++ ys) a c
failed_more {xs} {ys} {a} {b} {c} p q = record { bytes = prefix_more a.taken b.taken c.taken xs ys p.bytes q.bytes; rose = subst (λ n. Rose n c.faults) p.kept q.rose }

failed_first : {xs : List ℕ} {a b : Seen} (ys : List ℕ) → Failed xs a b → Failed (xs ++ ys) a b
failed_first {xs} {a} {b} ys p = record { bytes = prefix_first a.taken b.taken xs ys p.bytes; rose = p.rose }

-- ---- pieces

text_of-append : (ps qs : List Piece) → text_of (ps ++ qs) ≡ text_of ps ++ text_of qs
text_of-append [] qs = refl
text_of-append (p ∷ ps) qs = ap (λ t. p.text ++ t) (text_of-append ps qs) ∙ sym (append_assoc p.text (text_of ps) (text_of qs))

pub option_or-none : (o : Option ℕ) → option_or o None ≡ o
option_or-none None = refl
option_or-none (Some n) = refl

last_degree-append : (ps qs : List Piece) → last_degree (ps ++ qs) ≡ option_or (last_degree qs) (last_degree ps)
last_degree-append [] qs = sym (option_or-none (last_degree qs))
last_degree-append (p ∷ ps) qs = ap (λ o. option_or o p.degree) (last_degree-append ps qs) ∙ or_assoc (last_degree qs) (last_degree ps) p.degree

pub takes_nothing : {a : Written} → Takes [] a a
takes_nothing {a} = record { sink = took_nothing; last = refl }

pub takes_more : {ps qs : List Piece} {a b c : Written} → Takes ps a b → Takes qs b c → Takes (ps ++ qs) a c
takes_more {ps} {qs} {a} {b} {c} p q = record {
  sink = subst (λ t. Took t a.sink c.sink) (sym (text_of-append ps qs)) (took_more p.sink q.sink);
  last = q.last ∙ ap (option_or (last_degree qs)) p.last ∙ sym (or_assoc (last_degree qs) (last_degree ps) a.last) ∙ ap (λ o. option_or o a.last) (sym (last_degree-append ps qs));
}

pub breaks_first : {ps : List Piece} {a b : Written} {cause : Break} (qs : List Piece) → BreaksIn ps a b cause → BreaksIn (ps ++ qs) a b cause
breaks_first {ps} {a} {b} qs (fault p) = fault (subst (λ t. Failed t a.sink b.sink) (sym (text_of-append ps qs)) (failed_first (text_of qs) p))
breaks_first {ps} {a} {b} qs (no_memory k less t) =
    no_memory k (omega (arith, length-append ps qs)) (subst (λ qs. Takes qs a b) (sym (take-append-le k ps qs (omega arith))) t)

pub breaks_more : {ps qs : List Piece} {a b c : Written} {cause : Break} → Takes ps a b → BreaksIn qs b c cause → BreaksIn (ps ++ qs) a c cause
breaks_more {ps} {qs} {a} {b} {c} t (fault p) = fault (subst (λ t. Failed t a.sink c.sink) (sym (text_of-append ps qs)) (failed_more t.sink p))
breaks_more {ps} {qs} {a} {b} {c} t (no_memory k less u) =
    no_memory (length ps + k) (omega (arith, length-append ps qs)) (subst (λ qs. Takes qs a c) (sym (take-append-add ps qs k)) (takes_more t u))

-- where there was no memory for the first piece
pub no_memory_first : {ps : List Piece} {a : Written} → 0 < length ps → BreaksIn ps a a Memory
no_memory_first some = no_memory 0 some takes_nothing

-- a break that is passed on is a fault where it was one
pub fault_passed : {X Y : Type 0} {cause given : Break} {r : Result X Break} → r ≡ Err cause → cause ≡ given → r ≡ Err Fault → ◌≡◌ {A = Result Y Break} (Err given) (Err Fault)
fault_passed {X} {Y} {cause} {given} {r} told same e =
    let passed : ◌≡◌ {A = Result X Break} (Err cause) (Err Fault) = sym told ∙ e in
    let fault_is : cause ≡ Fault = cc in
    ap Err (sym same ∙ fault_is)

-- ---- one piece

pub breaks_piece : (text : List ℕ) (degree : Option ℕ) {a b : Written} → Failed text a.sink b.sink → BreaksIn (piece text degree ∷ []) a b Fault
breaks_piece text degree {a} {b} f = fault (subst (λ t. Failed t a.sink b.sink) (sym (append-nil text)) f)

pub took_piece : (text : List ℕ) (degree : Option ℕ) {a b : Written} → Takes (piece text degree ∷ []) a b → Took text a.sink b.sink
took_piece text degree {a} {b} t = subst (λ t. Took t a.sink b.sink) (append-nil text) t.sink

pub failed_piece : (text : List ℕ) (degree : Option ℕ) {a b : Written} {cause : Break} → BreaksIn (piece text degree ∷ []) a b cause → cause ≢ Memory → Failed text a.sink b.sink
failed_piece text degree {a} {b} (fault f) other = subst (λ t. Failed t a.sink b.sink) (append-nil text) f
failed_piece text degree (no_memory k less t) other = absurd (other refl)

-- ---- a list of pieces, of which the first were taken

pub record HasTaken (pieces rest : List Piece) (before now : Written) : Type 0 where
  pub front : List Piece
  pub parts : pieces ≡ front ++ rest
  pub takes : Takes front before now

pub taken_nothing : {pieces rest : List Piece} {a : Written} → pieces ≡ rest → HasTaken pieces rest a a
taken_nothing same = record { front = []; parts = same; takes = takes_nothing }

pub taken_more : {pieces ps : List Piece} {a b c : Written} (rest : List Piece) → HasTaken pieces (ps ++ rest) a b → Takes ps b c → HasTaken pieces rest a c
taken_more {pieces} {ps} rest h t = record { front = h.front ++ ps; parts = h.parts ∙ sym (append_assoc h.front ps rest); takes = takes_more h.takes t }

pub taken_whole : {pieces : List Piece} {a b : Written} → HasTaken pieces [] a b → Takes pieces a b
taken_whole {pieces} {a} {b} h = subst (λ ps. Takes ps a b) (sym (h.parts ∙ append-nil h.front)) h.takes

pub taken_broken : {pieces ps : List Piece} {a b c : Written} {cause : Break} (rest : List Piece) → HasTaken pieces (ps ++ rest) a b → BreaksIn ps b c cause → BreaksIn pieces a c cause
taken_broken {pieces} {ps} {a} {b} {c} {cause} rest h p =
    subst (λ t. BreaksIn t a c cause) (sym h.parts) (breaks_more h.takes (breaks_first rest p))

pub taken_no_memory : {pieces rest : List Piece} {a b : Written} → HasTaken pieces rest a b → 0 < length rest → BreaksIn pieces a b Memory
taken_no_memory {pieces} {rest} {a} {b} h some = subst (λ t. BreaksIn t a b Memory) (sym h.parts) (breaks_more h.takes (no_memory_first some))
