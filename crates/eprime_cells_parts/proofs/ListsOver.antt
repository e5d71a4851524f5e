-- Lists over axes.
use Rattle.std.proofs.Common.{◌≡◌, refl, sym, ap, ◌∙◌, ℕ, ℤ, Bool, true, false, ◌&&◌, List, [], ◌∷◌, map, length, Option, Some, None, option_map, nat_eq, arith}
use Rattle.std.proofs.lemmas.Bool.Decides.{nat_tests}
use Rattle.ess_semantics.specs.Lists.{and_then, when, is_some_and}
use Rattle.ess_semantics.specs.Values.{Value, number}
use Rattle.ess_semantics.specs.Order.{same_ints}
use Rattle.ess_semantics.specs.Domains.{Span, int_members, integers}
use Rattle.ess_semantics.specs.Trees.{Ends, Ex, int_dom}
use Rattle.ess_semantics.specs.Tables.{code}
use Rattle.ess_semantics.specs.Meaning.{meaning, meanings, empty_env, as_int, with_span, spans_of}
use Rattle.ess_semantics.specs.DeclaredTables.{axis_members}
use Rattle.eprime_read_cells_laws.specs.CellMachine.{listed, plain_list, indexed_list}
use Rattle.eprime_cells_laws.specs.TableReading.{exs_list, list_over, is_index_of}
use Rattle.eprime_cells_machine.specs.declared.values.CellRange.{CellRange}
use Rattle.eprime_cells_machine.specs.ValueViews.{pure_number, list_of, all_ends, all_bounds}
use Rattle.eprime_cells_parts.specs.Numbers.{number_of, span_of}
use Rattle.eprime_cells_parts.proofs.ItemValues.{meaning_number}

exs-listed : (es : List Ex) → exs_list (listed es) ≡ es
exs-listed [] = refl
exs-listed (e ∷ es) = ap (λ xs. e ∷ xs) (exs-listed es)

over-plain : (a : List ℤ) (es : List Ex) → list_over a (plain_list es) ≡ when (nat_eq (length es) (length a)) es
over-plain a es = ap (λ xs. when (nat_eq (length xs) (length a)) xs) (exs-listed es)

over-indexed : (a : List ℤ) (es : List Ex) (rs : List Ends) (is : List Ex) → list_over a (indexed_list es rs is) ≡ when (is_index_of a (int_dom rs (listed is)) && nat_eq (length es) (length a)) es
over-indexed a es rs is = ap (λ xs. when (is_index_of a (int_dom rs (listed is)) && nat_eq (length xs) (length a)) xs) (exs-listed es)

eq-true : (n m : ℕ) → n ≡ m → nat_eq n m ≡ true
eq-true n m h = grind (arith, nat_tests)

eq-false : (n m : ℕ) → (n ≡ m → ⊥) → nat_eq n m ≡ false
eq-false n m h = grind (arith, nat_tests)

and-false : (b : Bool) → b && false ≡ false
and-false true = refl
and-false false = refl

and-true : (b : Bool) → b && true ≡ b
and-true true = refl
and-true false = refl

-- A list of another length stands over no axis.
pub other_length : (a : List ℤ) (es : List Ex) (o : Option (List CellRange)) (n : ℕ) → length es ≡ n → (n ≡ length a → ⊥) → list_over a (list_of es o) ≡ None
other_length a es None n h d = over-plain a es ∙ ap (λ b. when b es) (eq-false (length es) (length a) (λ e. d (sym h ∙ e)))
other_length a es (Some rs) n h d =
    over-indexed a es (all_ends rs) (all_bounds rs)
    ∙ ap (λ b. when (is_index_of a (int_dom (all_ends rs) (listed (all_bounds rs))) && b) es) (eq-false (length es) (length a) (λ e. d (sym h ∙ e)))
    ∙ ap (λ b. when b es) (and-false (is_index_of a (int_dom (all_ends rs) (listed (all_bounds rs)))))

-- One of the same length does, where it has no index domain
pub plain_fits : (a : List ℤ) (es : List Ex) (n : ℕ) → length es ≡ n → n ≡ length a → list_over a (list_of es None) ≡ when true es
plain_fits a es n h e = over-plain a es ∙ ap (λ b. when b es) (eq-true (length es) (length a) (h ∙ e))

-- or one with the same members.
pub indexed_fits : (a : List ℤ) (es : List Ex) (rs : List CellRange) (n : ℕ) (b : Bool) → length es ≡ n → n ≡ length a → is_index_of a (int_dom (all_ends rs) (listed (all_bounds rs))) ≡ b →
    list_over a (list_of es (Some rs)) ≡ when b es
indexed_fits a es rs n b h e i =
    over-indexed a es (all_ends rs) (all_bounds rs)
    ∙ ap (λ c. when (is_index_of a (int_dom (all_ends rs) (listed (all_bounds rs))) && c) es) (eq-true (length es) (length a) (h ∙ e))
    ∙ ap (λ c. when c es) (and-true (is_index_of a (int_dom (all_ends rs) (listed (all_bounds rs)))) ∙ i)

-- ---- the members of index domains

abbrev one-span : Option Value → Option (List Span) → Option (List Span)
one-span o r = and_then (as_int o) (λ n. with_span (Some n) (Some n) r)

abbrev two-span : Option Value → Option Value → Option (List Span) → Option (List Span)
two-span o p r = and_then (as_int o) (λ n. and_then (as_int p) (λ m. with_span (Some n) (Some m) r))

spans-read : (rs : List CellRange) → spans_of (all_ends rs) (meanings (listed (all_bounds rs)) empty_env) ≡ Some (map span_of rs)
spans-read [] = refl
spans-read (CellRange.One a ∷ rs) =
    ap (λ o. one-span o (spans_of (all_ends rs) (meanings (listed (all_bounds rs)) empty_env))) (meaning_number a)
    ∙ ap (with_span (Some (number_of a)) (Some (number_of a))) (spans-read rs)
spans-read (CellRange.Span a b ∷ rs) =
    ap (λ o. two-span o (meaning (pure_number b) empty_env) (spans_of (all_ends rs) (meanings (listed (all_bounds rs)) empty_env))) (meaning_number a)
    ∙ ap (λ o. two-span (Some (number (number_of a))) o (spans_of (all_ends rs) (meanings (listed (all_bounds rs)) empty_env))) (meaning_number b)
    ∙ ap (with_span (Some (number_of a)) (Some (number_of b))) (spans-read rs)

code-numbers : (ns : List ℤ) → map code (map number ns) ≡ ns
code-numbers [] = refl
code-numbers (n ∷ ns) = ap (λ ms. n ∷ ms) (code-numbers ns)

listed-members : (a : List ℤ) (o : Option (List ℤ)) → is_some_and (option_map (map code) (option_map (map number) o)) (λ is. same_ints is a) ≡ is_some_and o (λ is. same_ints is a)
listed-members a None = refl
listed-members a (Some ns) = ap (λ ms. same_ints ms a) (code-numbers ns)

-- Whether ranges have the members of an axis.
pub index_members : (a : List ℤ) (rs : List CellRange) (o : Option (List ℤ)) → option_map (map number) o ≡ int_members (map span_of rs) →
    is_index_of a (int_dom (all_ends rs) (listed (all_bounds rs))) ≡ is_some_and o (λ is. same_ints is a)
index_members a rs o h =
    ap (λ ss. is_some_and (axis_members (option_map integers ss)) (λ is. same_ints is a)) (spans-read rs)
    ∙ ap (λ ms. is_some_and (option_map (map code) ms) (λ is. same_ints is a)) (sym h)
    ∙ listed-members a o
