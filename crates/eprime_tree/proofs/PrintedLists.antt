-- What is appended where items, generators, domains and ranges of a model are printed, form by form.
use Rattle.std.proofs.Common.{◌≡◌, refl, sym, ap, ◌∙◌, subst, ℕ, ◌+◌, ◌<◌, ◌≤◌, Bool, ◌&&◌, List, [], ◌∷◌, ◌++◌, map, length, get_or, Option, Some, None}
use Rattle.std.specs.Prelude.{codes}
use Rattle.ess_semantics.specs.Values.{Text}
use Rattle.ess_grammar.specs.Models.{Scope}
use Rattle.ess_grammar.specs.Words.{bool_word, int_word, open_round, close_round, colon, dots}
use Rattle.ess_print_laws.specs.Pieces.{space, reserved, sign, named}
use Rattle.ess_print_laws.specs.Parts.{comma_before, commas, bracketed}
use Rattle.ess_print_laws.specs.Brackets.{is_written_as_pattern}
use Rattle.ess_print_laws.specs.Expressions.{ex_pieces, dom_pieces}
use Rattle.eprime_tree.specs.declared.expressions.PEx.{PEx}
use Rattle.eprime_tree.specs.declared.expressions.PGen.{PGen}
use Rattle.eprime_tree.specs.declared.expressions.PDom.{PDom}
use Rattle.eprime_tree.specs.declared.expressions.PRange.{PRange}
use Rattle.eprime_tree.specs.declared.expressions.PGen.TheVariants.{Over, If}
use Rattle.eprime_tree.specs.declared.expressions.PDom.TheVariants as dom
use Rattle.eprime_tree.specs.declared.expressions.PRange.TheVariants as range
use Rattle.eprime_tree.specs.Views.{pure_dom, pure_range}
use Rattle.eprime_tree.specs.Written.{dom_written}
use Rattle.eprime_tree.specs.Printed.{Puts, read_ex, PrintsEx, PrintsBracketed, PrintsExs, PrintsGens, item_pieces, PrintsItem, PrintsDom, bounds_pieces, PrintsRange, PrintsBound, PrintsRanges}
use Rattle.eprime_tree.proofs.Equations.{pure_gen-Over, pure_gen-If, pure_dom-Bool, pure_dom-Int, pure_range-One, pure_range-Span}
use Rattle.eprime_tree.proofs.Putting.{puts-text, puts-then, puts-between}
use Rattle.eprime_tree.proofs.RangesFit.{ranges-are, ranges-fit}
use Rattle.eprime_tree.proofs.Loops.{Listed, listed-none, listed-more, listed-all, GensListed, gens_listed-all}

-- ---- loops

-- Expressions, of which the first i are appended.
abbrev pub ExsListed : Text → Text → ℕ → List PEx → Type 0
ExsListed before now i es = Listed (λ s e. ex_pieces (read_ex s e)) before now i es

pub exs_listed-none : (t : Text) (es : List PEx) → ExsListed t t 0 es
exs_listed-none t es = listed-none (λ s e. ex_pieces (read_ex s e)) t es

pub exs_listed-more : (before now mid after : Text) (i : ℕ) (es : List PEx) (e : PEx) → ExsListed before now i es → i < length es → e ≡ get_or es i e → mid ≡ now ++ comma_before i → PrintsEx mid after e →
    ExsListed before after (i + 1) es
unfolding PrintsEx
exs_listed-more before now mid after i es e l lt is h p = listed-more (λ s e. ex_pieces (read_ex s e)) before now mid after i es e l lt is h p

pub prints-exs : (before now : Text) (i : ℕ) (es : List PEx) → ExsListed before now i es → length es ≤ i → PrintsExs before now es
unfolding PrintsExs
prints-exs before now i es l ge s = listed-all (λ s e. ex_pieces (read_ex s e)) before now i es l ge s

pub prints-gens : (before now : Text) (i : ℕ) (gs : List PGen) → GensListed before now i gs → length gs ≤ i → PrintsGens before now gs
unfolding PrintsGens
prints-gens before now i gs l ge s = gens_listed-all before now i gs l ge s

-- Ranges, of which the first i are appended.
abbrev pub RangesListed : Text → Text → ℕ → List PRange → Type 0
RangesListed before now i rs = Listed (λ s r. bounds_pieces (pure_range s r)) before now i rs

pub ranges_listed-none : (t : Text) (rs : List PRange) → RangesListed t t 0 rs
ranges_listed-none t rs = listed-none (λ s r. bounds_pieces (pure_range s r)) t rs

pub ranges_listed-more : (before now mid after : Text) (i : ℕ) (rs : List PRange) (r : PRange) → RangesListed before now i rs → i < length rs → r ≡ get_or rs i r → mid ≡ now ++ comma_before i → PrintsRange mid after r →
    RangesListed before after (i + 1) rs
unfolding PrintsRange
ranges_listed-more before now mid after i rs r l lt is h p = listed-more (λ s r. bounds_pieces (pure_range s r)) before now mid after i rs r l lt is h p

pub prints-ranges : (before now : Text) (i : ℕ) (rs : List PRange) → RangesListed before now i rs → length rs ≤ i → PrintsRanges before now rs
unfolding PrintsRanges
prints-ranges before now i rs l ge s = listed-all (λ s r. bounds_pieces (pure_range s r)) before now i rs l ge s

-- ---- generators and conditions

puts-dom : (t0 t1 : Text) (d : PDom) (s : Scope) → PrintsDom t0 t1 d → Puts t0 t1 (dom_pieces (dom_written (pure_dom s d)))
unfolding PrintsDom
puts-dom t0 t1 d s p = p s

pub prints-Over : (t0 t1 t2 t3 : Text) (b : Bool) (a : Text) (d : PDom) → t1 ≡ t0 ++ a → t2 ≡ t1 ++ codes " : " → PrintsDom t2 t3 d → PrintsItem t0 t3 b (Over a d)
unfolding PrintsItem
prints-Over t0 t1 t2 t3 b a d h k p s =
    let e = pure_gen-Over s a d in
    subst (λ y. Puts t0 t3 (item_pieces b y)) (sym e)
    (puts-then t0 t1 t3 (λ us. named a ∷ us) (λ us. space ∷ sign colon ∷ space ∷ dom_pieces (dom_written (pure_dom s d)) us) (puts-text t0 t1 a (λ us. named a ∷ us) h (λ us. refl))
    (puts-then t1 t2 t3 (λ us. space ∷ sign colon ∷ space ∷ us) (dom_pieces (dom_written (pure_dom s d))) (puts-text t1 t2 (codes " : ") (λ us. space ∷ sign colon ∷ space ∷ us) k (λ us. refl))
    (puts-dom t2 t3 d s p)))

puts-condition : (t0 t1 : Text) (c : Bool) (e : PEx) (s : Scope) → PrintsBracketed t0 t1 c e → Puts t0 t1 (bracketed c (ex_pieces (read_ex s e)))
unfolding PrintsBracketed
puts-condition t0 t1 c e s p = p s

pub prints-If : (t0 t1 : Text) (b c : Bool) (e : PEx) → PrintsBracketed t0 t1 c e → ((s : Scope) → c ≡ b && is_written_as_pattern (read_ex s e)) → PrintsItem t0 t1 b (If e)
unfolding PrintsItem
prints-If t0 t1 b c e p h s =
    let q = pure_gen-If s e in
    subst (λ y. Puts t0 t1 (item_pieces b y)) (sym q)
    (subst (λ c. Puts t0 t1 (bracketed c (ex_pieces (read_ex s e)))) (h s) (puts-condition t0 t1 c e s p))

pub same_item : (t0 t1 : Text) (b : Bool) (x v : PGen) → x ≡ v → PrintsItem t0 t1 b v → PrintsItem t0 t1 b x
same_item t0 t1 b x v h p = subst (λ x. PrintsItem t0 t1 b x) (sym h) p

-- ---- domains

pub same_dom : (t0 t1 : Text) (x v : PDom) → x ≡ v → PrintsDom t0 t1 v → PrintsDom t0 t1 x
same_dom t0 t1 x v h p = subst (λ x. PrintsDom t0 t1 x) (sym h) p

pub prints-Bool : (t0 t1 : Text) → t1 ≡ t0 ++ codes "bool" → PrintsDom t0 t1 dom.Bool
unfolding PrintsDom
prints-Bool t0 t1 h s = subst (λ d. Puts t0 t1 (dom_pieces (dom_written d))) (sym (pure_dom-Bool s)) (puts-text t0 t1 (codes "bool") (λ us. reserved bool_word ∷ us) h (λ us. refl))

pub prints-int : (t0 t1 : Text) (rs : List PRange) → rs ≡ [] → t1 ≡ t0 ++ codes "int" → PrintsDom t0 t1 (dom.Int rs)
unfolding PrintsDom
prints-int t0 t1 rs n h = subst (λ rs. (s : Scope) → Puts t0 t1 (dom_pieces (dom_written (pure_dom s (dom.Int rs))))) (sym n)
    (λ s. subst (λ d. Puts t0 t1 (dom_pieces (dom_written d))) (sym (pure_dom-Int s [])) (puts-text t0 t1 (codes "int") (λ us. reserved int_word ∷ us) h (λ us. refl)))

puts-ranges : (t0 t1 : Text) (rs : List PRange) (s : Scope) → PrintsRanges t0 t1 rs → Puts t0 t1 (commas (map (λ r. bounds_pieces (pure_range s r)) rs))
unfolding PrintsRanges
puts-ranges t0 t1 rs s p = p s

bounds-map : (s : Scope) (rs : List PRange) → map bounds_pieces (map (pure_range s) rs) ≡ map (λ r. bounds_pieces (pure_range s r)) rs
bounds-map s [] = refl
bounds-map s (r ∷ rs) = ap (λ ps. bounds_pieces (pure_range s r) ∷ ps) (bounds-map s rs)

pub prints-Int : (t0 t1 t2 t3 t4 : Text) (rs : List PRange) → (rs ≡ [] → ⊥) → t1 ≡ t0 ++ codes "int" → t2 ≡ t1 ++ codes "(" → PrintsRanges t2 t3 rs → t4 ≡ t3 ++ codes ")" → PrintsDom t0 t4 (dom.Int rs)
unfolding PrintsDom
prints-Int t0 t1 t2 t3 t4 [] n h k p j s = absurd (n refl)
prints-Int t0 t1 t2 t3 t4 (x ∷ xs) n h k p j s =
    let e = pure_dom-Int s (x ∷ xs) in
    let bs = map (pure_range s) (x ∷ xs) in
    let are = ranges-are s (x ∷ xs) in
    subst (λ d. Puts t0 t4 (dom_pieces (dom_written d))) (sym e)
    (subst (λ ps. Puts t0 t4 (λ us. reserved int_word ∷ sign open_round ∷ commas ps (sign close_round ∷ us))) (sym (ranges-fit bs are ∙ bounds-map s (x ∷ xs)))
    (puts-then t0 t1 t4 (λ us. reserved int_word ∷ us) (λ us. sign open_round ∷ commas (map (λ r. bounds_pieces (pure_range s r)) (x ∷ xs)) (sign close_round ∷ us))
    (puts-text t0 t1 (codes "int") (λ us. reserved int_word ∷ us) h (λ us. refl))
    (puts-between t1 t2 t3 t4 (codes "(") (codes ")") (λ us. sign open_round ∷ us) (λ us. sign close_round ∷ us) (commas (map (λ r. bounds_pieces (pure_range s r)) (x ∷ xs)))
    k (λ us. refl) (puts-ranges t2 t3 (x ∷ xs) s p) j (λ us. refl))))

-- ---- ranges

puts-ex : (t0 t1 : Text) (e : PEx) (s : Scope) → PrintsEx t0 t1 e → Puts t0 t1 (ex_pieces (read_ex s e))
unfolding PrintsEx
puts-ex t0 t1 e s p = p s

pub same_range : (t0 t1 : Text) (x v : PRange) → x ≡ v → PrintsRange t0 t1 v → PrintsRange t0 t1 x
same_range t0 t1 x v h p = subst (λ x. PrintsRange t0 t1 x) (sym h) p

pub prints-one : (t0 t1 : Text) (e : PEx) → PrintsEx t0 t1 e → PrintsRange t0 t1 (range.One e)
unfolding PrintsRange
prints-one t0 t1 e p s =
    let q = pure_range-One s e in
    subst (λ b. Puts t0 t1 (bounds_pieces b)) (sym q) (puts-ex t0 t1 e s p)

pub prints-none : (t : Text) (o : Option PEx) → o ≡ None → PrintsBound t t o
unfolding PrintsBound
prints-none t o h = subst (λ o. PrintsBound t t o) (sym h) refl

pub prints-some : (t0 t1 : Text) (o : Option PEx) (e : PEx) → o ≡ Some e → PrintsEx t0 t1 e → PrintsBound t0 t1 o
unfolding PrintsBound
prints-some t0 t1 o e h p = subst (λ o. PrintsBound t0 t1 o) (sym h) p

-- `..` between what may stand before and behind it
puts-dots : (t1 t2 : Text) → t2 ≡ t1 ++ codes ".." → Puts t1 t2 (λ us. sign dots ∷ us)
puts-dots t1 t2 h = puts-text t1 t2 (codes "..") (λ us. sign dots ∷ us) h (λ us. refl)

puts-span : (t0 t1 t2 t3 : Text) (a b : Option PEx) (s : Scope) → PrintsBound t0 t1 a → t2 ≡ t1 ++ codes ".." → PrintsBound t2 t3 b →
    Puts t0 t3 (bounds_pieces (pure_range s (range.Span a b)))
unfolding PrintsBound
puts-span t0 t1 t2 t3 None None s p h q =
    subst (λ b. Puts t0 t3 (bounds_pieces b)) (sym (pure_range-Span s None None))
    (subst (λ t. Puts t0 t (λ us. sign dots ∷ us)) (sym q) (subst (λ t. Puts t t2 (λ us. sign dots ∷ us)) p (puts-dots t1 t2 h)))
puts-span t0 t1 t2 t3 None (Some b) s p h q =
    let e = pure_range-Span s None (Some b) in
    subst (λ b. Puts t0 t3 (bounds_pieces b)) (sym e)
    (puts-then t0 t2 t3 (λ us. sign dots ∷ us) (ex_pieces (read_ex s b)) (subst (λ t. Puts t t2 (λ us. sign dots ∷ us)) p (puts-dots t1 t2 h)) (puts-ex t2 t3 b s q))
puts-span t0 t1 t2 t3 (Some a) None s p h q =
    let e = pure_range-Span s (Some a) None in
    subst (λ b. Puts t0 t3 (bounds_pieces b)) (sym e)
    (puts-then t0 t1 t3 (ex_pieces (read_ex s a)) (λ us. sign dots ∷ us) (puts-ex t0 t1 a s p) (subst (λ t. Puts t1 t (λ us. sign dots ∷ us)) (sym q) (puts-dots t1 t2 h)))
puts-span t0 t1 t2 t3 (Some a) (Some b) s p h q =
    let e = pure_range-Span s (Some a) (Some b) in
    subst (λ b. Puts t0 t3 (bounds_pieces b)) (sym e)
    (puts-then t0 t1 t3 (ex_pieces (read_ex s a)) (λ us. sign dots ∷ ex_pieces (read_ex s b) us) (puts-ex t0 t1 a s p)
    (puts-then t1 t2 t3 (λ us. sign dots ∷ us) (ex_pieces (read_ex s b)) (puts-dots t1 t2 h) (puts-ex t2 t3 b s q)))

pub prints-Span : (t0 t1 t2 t3 : Text) (a b : Option PEx) → PrintsBound t0 t1 a → t2 ≡ t1 ++ codes ".." → PrintsBound t2 t3 b → PrintsRange t0 t3 (range.Span a b)
unfolding PrintsRange
prints-Span t0 t1 t2 t3 a b p h q s = puts-span t0 t1 t2 t3 a b s p h q
