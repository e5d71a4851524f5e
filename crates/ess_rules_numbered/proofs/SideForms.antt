-- Equality of lists and signs between them, by both sides and the types of their items.
use Rattle.std.proofs.Common.{◌≡◌, refl, sym, ap, ◌∙◌, true, false, Option, Some, None, option_map}
use Rattle.ess_semantics.specs.declared.words.Op2.{Op2}
use Rattle.ess_semantics.specs.Lists.{and_then}
use Rattle.ess_semantics.specs.Values.{a_matrix}
use Rattle.ess_semantics.specs.Names.{Names}
use Rattle.ess_semantics.specs.Trees.{Ex, Dom, ex2}
use Rattle.ess_semantics.specs.Types.{Ty, compound2}
use Rattle.ess_semantics.specs.Typing.{type_of}
use Rattle.ess_rules_laws.specs.ListRules.{is_lex}
use Rattle.ess_rules_laws.specs.MatrixRules.{both_matrices}
use Rattle.ess_refine_laws.specs.AllRules.{Supply}
use Rattle.ess_rules_forms.specs.Forms.{truth_pair, of_pair}
use Rattle.ess_rules_ordered.specs.IndexForms.{item_of_matrix}
use Rattle.ess_numbered_laws.specs.CountedSources.{counted_list}
use Rattle.ess_numbered_laws.specs.EqualByNumber.{equal_as, other_side, equal_counted, equal_by_number}
use Rattle.ess_numbered_laws.specs.OrderByNumber.{ordered_lists, with_items, counted_operand, order_by_number}
use Rattle.ess_rules_numbered.specs.SideForms.{of_both_items, equal_most, ordered_most, ordered_pair}

-- ---- equality

-- By both sides.
pub equality_by_sides : (s : Supply) (g : Names Ty) (e : Ex) → equal_by_number s g e ≡ of_pair (equal_by_number s g) (truth_pair e)
equality_by_sides s g (ex2 true Op2.Eq a b) = refl
equality_by_sides s g (ex2 true o a b) = refl
equality_by_sides s g e = refl

and-none : (q : Option Ty) → None ≡ and_then {B = Ex} q (λ u. None)
and-none None = refl
and-none (Some u) = refl

told-none : (p q : Option Ty) → None ≡ of_both_items p q (λ t u. None)
told-none (Some (compound2 a_matrix i t)) q = and-none (item_of_matrix q)
told-none p q = refl

by-types : (p q : Option Ty) (f : Ty → Ty → Ex) → both_matrices p q f ≡ of_both_items p q (λ t u. Some (f t u))
by-types (Some (compound2 a_matrix i t)) (Some (compound2 a_matrix j u)) f = refl
by-types p q f = refl

equal-by-types : (s : Supply) (n a b : Ex) (p q : Option Ty) (o : Option (Option Dom))
    → and_then o (λ d. both_matrices p q (equal_as d s.one s.other n a b))
    ≡ of_both_items p q (λ t u. option_map (λ d. equal_as d s.one s.other n a b t u) o)
equal-by-types s n a b p q None = told-none p q
equal-by-types s n a b p q (Some d) = by-types p q (equal_as d s.one s.other n a b)

-- Equality with a list that is counted, by the types of both.
pub equality_by_types : (s : Supply) (g : Names Ty) (a b : Ex)
    → equal_counted s g a b ≡ and_then (counted_list s g a) (λ n. equal_most s g n a b)
equality_by_types s g a b = go (counted_list s g a)
  where
    go : (o : Option Ex)
        → and_then o (λ n. and_then (other_side b) (λ d. both_matrices (type_of a g) (type_of b g) (equal_as d s.one s.other n a b)))
        ≡ and_then o (λ n. equal_most s g n a b)
    go None = refl
    go (Some n) = equal-by-types s n a b (type_of a g) (type_of b g) (other_side b)

-- ---- signs

-- By both sides.
pub order_by_sides : (s : Supply) (g : Names Ty) (e : Ex) → order_by_number s g e ≡ of_pair (order_by_number s g) (truth_pair e)
order_by_sides s g (ex2 true o a b) = refl
order_by_sides s g e = refl

with-both : (p q : Option Ty) (f : Ty → Ty → Option Ex) → with_items p q f ≡ of_both_items p q f
with-both (Some (compound2 a_matrix i t)) (Some (compound2 a_matrix j u)) f = refl
with-both p q f = refl

-- A sign between two sides, by the types of both.
pub order_by_types : (s : Supply) (g : Names Ty) (o : Op2) (a b : Ex) → order_by_number s g (ex2 true o a b) ≡ ordered_pair s g o a b
order_by_types s g o a b = go (counted_operand s g a b)
  where
    go : (c : Option Ex) → and_then c (λ n. with_items (type_of a g) (type_of b g) (ordered_lists o s.one s.other n a b))
        ≡ and_then c (λ n. ordered_most s g o n a b)
    go None = refl
    go (Some n) = with-both (type_of a g) (type_of b g) (ordered_lists o s.one s.other n a b)

with-none : (p q : Option Ty) → with_items {A = Ex} p q (λ t u. None) ≡ None
with-none (Some (compound2 a_matrix i t)) (Some (compound2 a_matrix j u)) = refl
with-none p q = refl

-- Another sign has nothing.
pub order_of_lex : (s : Supply) (g : Names Ty) (o : Op2) (a b : Ex) → is_lex o ≡ false → None ≡ order_by_number s g (ex2 true o a b)
order_of_lex s g o a b h = go (counted_operand s g a b)
  where
    nothing : (o : Op2) → is_lex o ≡ false → (n : Ex) → ordered_lists o s.one s.other n a b ≡ (λ t u. None)
    nothing Op2.LexLt h n = cc
    nothing Op2.LexLe h n = cc
    nothing Op2.LexGt h n = cc
    nothing Op2.LexGe h n = cc
    nothing o h n = refl

    go : (c : Option Ex)
        → None ≡ and_then c (λ n. with_items (type_of a g) (type_of b g) (ordered_lists o s.one s.other n a b))
    go None = refl
    go (Some n) = sym (ap (with_items (type_of a g) (type_of b g)) (nothing o h n) ∙ with-none (type_of a g) (type_of b g))
