-- A number of such a tree means the same as the one that is there everywhere: a power of 2 alone is written anew.
use Rattle.std.proofs.Common.{◌≡◌, refl, sym, ap, ◌∙◌, ℕ, Bool, true, false, List, [], ◌∷◌, pos, Option, Some, option_map}
use Rattle.ess_semantics.specs.declared.words.Op1.{Op1}
use Rattle.ess_semantics.specs.declared.words.Op2.{Op2}
use Rattle.ess_semantics.specs.declared.words.Fun.{Fun}
use Rattle.ess_semantics.specs.Lists.{and_then}
use Rattle.ess_semantics.specs.Values.{Text, Value, number as number_value}
use Rattle.ess_semantics.specs.Names.{Names}
use Rattle.ess_semantics.specs.Domains.{integers}
use Rattle.ess_semantics.specs.Operators.{value_of_node, list_value}
use Rattle.ess_semantics.specs.Trees.{unary, binary, word, matrix_literal, both_ends, name_pat, Ex, Exs, ex1, Gens, Dom}
use Rattle.ess_semantics.specs.Meaning.{Env, meaning, meanings, items_under, collect, domain_of, members_in, spans_of, with_pat}
use Rattle.ess_rules_laws.specs.SlotListings.{slots_dom}
use Rattle.ess_rules_laws.proofs.Bindings.{collect-each-of, collect-each-in, where-true-same}
use Rattle.ess_rules_laws.proofs.RuleAnswers.{each-in-any}
use Rattle.ess_refine_laws.specs.Everywhere.{everywhere, everywhere_exs, everywhere_gens, everywhere_dom}
use Rattle.ess_flat_laws.specs.Flat.{denied, negative, absolute, sum, difference, product}
use Rattle.ess_seen_laws.specs.ess_bare_laws.Lean.{of_all, of_some, of_sum}
use Rattle.ess_seen_laws.specs.Seen.{Bound, Counted, Seen, number, truth, named, counted, figure, flag, atom, one, two, chosen, folded, of_items, size, within, set_within, compared, Listed, last_item, item_before, Going, at_end, through, through_slots, among, where_holds, Range, truths, numbers}
use Rattle.ess_seen_laws.proofs.Counts.{counted-means}
use Rattle.ess_seen_everywhere_laws.proofs.Operands.{of-any}
use Rattle.ess_seen_everywhere_laws.proofs.Stays.{counted-everywhere, set-everywhere}

-- ---- values of operators

abbrev one_value : Op1 → Option Value → Option Value
one_value o x = value_of_node (unary o) (x ∷ [])

abbrev two_value : Op2 → Option Value → Option Value → Option Value
two_value o x y = value_of_node (binary o) (x ∷ y ∷ [])

both-same : (o : Op2) (x y z w : Option Value) → x ≡ y → z ≡ w → two_value o x z ≡ two_value o y w
both-same o x y z w p q = ap (λ u. two_value o u z) p ∙ ap (λ u. two_value o y u) q

-- A range from one value to another.
abbrev ranged : Option Value → Option Value → Option (List Value)
ranged x y = members_in (option_map integers (spans_of (both_ends ∷ []) (x ∷ y ∷ [])))

-- The items that generators over members go through.
abbrev gone : (Value → Option (List Value)) → Option (List Value) → Option (List Value)
gone F o = and_then o (λ vs. collect vs F)

-- A number of slots.
pub same-count : {e : Ex} {n : ℕ} → Counted e n → (env : Env) → meaning (everywhere e) env ≡ meaning e env
same-count c env = counted-means (counted-everywhere c) env ∙ sym (counted-means c env)

module _ (cells : Text → Option (Bool × List ℕ)) where
  mutual
    -- What is there everywhere means the same.
    pub same-everywhere : {r : Names Bound} {e : Ex} {m : Bool} → Seen cells r e m → (env : Env) →
        meaning (everywhere e) env ≡ meaning e env
    same-everywhere number env = refl
    same-everywhere truth env = refl
    same-everywhere (named q k) env = refl
    same-everywhere (counted c) env = same-count c env
    same-everywhere (figure q p) env = refl
    same-everywhere (flag q i) env = refl
    same-everywhere (atom k p) env = refl
    same-everywhere (one denied f) env = refl
    same-everywhere (one negative f) env = ap (one_value Op1.Minus) (same-everywhere f env)
    same-everywhere (one absolute f) env = ap (one_value Op1.Bar) (same-everywhere f env)
    same-everywhere (two {b = true} o f g) env = refl
    same-everywhere (two {b = false} sum f g) env =
        both-same Op2.Plus _ _ _ _ (same-everywhere f env) (same-everywhere g env)
    same-everywhere (two {b = false} difference f g) env =
        both-same Op2.Minus _ _ _ _ (same-everywhere f env) (same-everywhere g env)
    same-everywhere (two {b = false} product f g) env =
        both-same Op2.Times _ _ _ _ (same-everywhere f env) (same-everywhere g env)
    same-everywhere (chosen f) env = refl
    same-everywhere (folded of_all g f) env = refl
    same-everywhere (folded of_some g f) env = refl
    same-everywhere (folded {e = e} of_sum g f) env =
        ap (λ o. value_of_node (word Fun.Sum) (option_map list_value o ∷ []))
        (same-items g (λ here. option_map (λ v. v ∷ []) (meaning (everywhere e) here)) (λ here. option_map (λ v. v ∷ []) (meaning e here))
        (λ here. ap (option_map (λ v. v ∷ [])) (same-everywhere f here)) env)
    same-everywhere (of_items of_all l) env = refl
    same-everywhere (of_items of_some l) env = refl
    same-everywhere (of_items of_sum l) env =
        ap (λ os. value_of_node (word Fun.Sum) (value_of_node matrix_literal os ∷ [])) (same-listed l env)
    same-everywhere (size s) env = ap (λ z. meaning (ex1 false Op1.Bar z) env) (set-everywhere cells s)
    same-everywhere (within f s) env = refl
    same-everywhere (set_within u v) env = refl
    same-everywhere (compared c u v) env = refl

    -- So do items.
    pub same-listed : {r : Names Bound} {es : Exs} {m : Bool} → Listed cells r es m → (env : Env) →
        meanings (everywhere_exs es) env ≡ meanings es env
    same-listed (last_item f) env = ap (λ o. o ∷ []) (same-everywhere f env)
    same-listed (item_before {e = e} {es = es} f l) env =
        ap (λ o. o ∷ meanings (everywhere_exs es) env) (same-everywhere f env) ∙ ap (λ os. meaning e env ∷ os) (same-listed l env)

    -- And generators go through the same.
    pub same-items : {r t : Names Bound} {gs : Gens} → Going cells r gs t → (k j : Env → Option (List Value)) →
        ((here : Env) → k here ≡ j here) → (env : Env) → items_under (everywhere_gens gs) env k ≡ items_under gs env j
    same-items at_end k j h env = h env
    same-items (through {a = a} {d = d} {gs = gs} n g) k j h env =
        ap (gone (λ v. items_under (everywhere_gens gs) (with_pat (name_pat a) v env) k)) (same-range n env)
        ∙ collect-each-of (members_in (domain_of d env)) (λ v. items_under (everywhere_gens gs) (with_pat (name_pat a) v env) k)
        (λ v. items_under gs (with_pat (name_pat a) v env) j)
        (of-any (members_in (domain_of d env)) _ (λ v. same-items g k j h (with_pat (name_pat a) v env)))
    same-items (through_slots {a = a} {e = x} {gs = gs} c g) k j h env =
        ap (λ o. gone (λ v. items_under (everywhere_gens gs) (with_pat (name_pat a) v env) k) (ranged (Some (number_value (pos 1))) o))
        (same-count c env)
        ∙ collect-each-of (members_in (domain_of (slots_dom x) env))
        (λ v. items_under (everywhere_gens gs) (with_pat (name_pat a) v env) k) (λ v. items_under gs (with_pat (name_pat a) v env) j)
        (of-any (members_in (domain_of (slots_dom x) env)) _ (λ v. same-items g k j h (with_pat (name_pat a) v env)))
    same-items (among {a = a} {s = s} {gs = gs} x g) k j h env =
        collect-each-in (meaning s env) (λ v. items_under (everywhere_gens gs) (with_pat (name_pat a) v env) k)
        (λ v. items_under gs (with_pat (name_pat a) v env) j)
        (each-in-any (meaning s env) _ (λ v. same-items g k j h (with_pat (name_pat a) v env)))
    same-items (where_holds {c = c} {gs = gs} f g) k j h env =
        where-true-same (meaning c env) (items_under (everywhere_gens gs) env k) (items_under gs env j) (λ q. same-items g k j h env)

    same-range : {r : Names Bound} {d : Dom} {m : Bool} → Range cells r d m → (env : Env) →
        members_in (domain_of (everywhere_dom d) env) ≡ members_in (domain_of d env)
    same-range truths env = refl
    same-range (numbers {a = x} {b = y} f g) env =
        ap (λ o. ranged o (meaning (everywhere y) env)) (same-everywhere f env) ∙ ap (ranged (meaning x env)) (same-everywhere g env)
