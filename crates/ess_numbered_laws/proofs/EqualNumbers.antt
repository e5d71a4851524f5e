-- Equality with a comprehension stays what it is by how many items there are, and item by item.
use Rattle.std.proofs.Common.{◌≡◌, sym, ap, ◌∙◌, Bool, true, false, if◌then◌else◌, List, [], ◌∷◌, map, length, pos, Some, None, option_map}
use Rattle.std.specs.Prelude.{is_some}
use Rattle.std.specs.List.{list_all}
use Rattle.ess_semantics.specs.declared.words.Op2.{Op2}
use Rattle.ess_semantics.specs.Values.{Text, Value, number, truth, to_list, items_of, matrix}
use Rattle.ess_semantics.specs.Order.{same, same_text}
use Rattle.ess_semantics.specs.Collections.{holds}
use Rattle.ess_semantics.specs.Numbers.{one_to}
use Rattle.ess_semantics.specs.Trees.{binary, Ex, name_ex, Dom, ex2}
use Rattle.ess_semantics.specs.Types.{Ty, is_bool}
use Rattle.ess_semantics.specs.Operators.{whole, item_at, value_of_node, false_where_undefined}
use Rattle.ess_semantics.specs.Meaning.{Env, meaning, domain_of, members_in}
use Rattle.ess_semantics.specs.Meets.{Meets}
use Rattle.ess_guard_laws.proofs.LiteralRows.{count-means}
use Rattle.ess_rules_laws.specs.Rules.{Unused}
use Rattle.ess_rules_laws.specs.FoldRules.{is_laid_open}
use Rattle.ess_rules_laws.specs.PartLookups.{indices_of, IndexedBy}
use Rattle.ess_rules_laws.specs.SlotListings.{slots_dom}
use Rattle.ess_rules_laws.specs.MatrixRules.{item_of, some_over, UnusedDom}
use Rattle.ess_rules_laws.proofs.Simulation.{but}
use Rattle.ess_rules_laws.proofs.Agreement.{agree-but, domain-agree}
use Rattle.ess_rules_laws.proofs.MeetsSimulation.{meets-agree-dom}
use Rattle.ess_rules_laws.proofs.SlotNumbers.{slots-members}
use Rattle.ess_rules_laws.proofs.ListIndices.{list-indexed}
use Rattle.ess_rules_laws.proofs.Connectives.{binary-means, and-means}
use Rattle.ess_rules_laws.proofs.Horizontal.{any-holds}
use Rattle.ess_rules_laws.proofs.RuleAnswers.{behind, name-behind, meets-behind}
use Rattle.ess_rules_laws.proofs.MatrixRules.{some-means, each-of-any}
use Rattle.ess_rules_laws.proofs.MatrixItems.{MatrixOf, equal_options}
use Rattle.ess_numbered_laws.specs.MostItems.{members_counted}
use Rattle.ess_numbered_laws.specs.CountedSources.{items_counted}
use Rattle.ess_numbered_laws.specs.EqualByNumber.{at_each_number, items_compared, as_many_items, equal_lists, equal_over}
use Rattle.ess_numbered_laws.specs.Bounds.{IsBound}
use Rattle.ess_numbered_laws.proofs.CountedNumbers.{items_counted-means, items_counted-met, item-behind, each-number, numbers-met}
use Rattle.ess_numbered_laws.proofs.ListsEqual.{lists-equal, over-equal}

-- ---- the indices of a list

listed : (xs ys : List Value) → Some xs ≡ Some ys → xs ≡ ys
listed xs ys e = ap (λ o. elim o [ Some zs ↦ zs | None ↦ [] ]) e

-- They are the numbers from 1.
pub indices-are : (z : Text) (l : Ex) (env : Env) (v : Value) → is_laid_open l ≡ true → meaning l env ≡ Some v → Meets l env
    → indices_of v ≡ map number (one_to (length (items_of v)))
indices-are z l env v o q m =
    let c = items_counted-means z l env v q in
    let r : IndexedBy l (slots_dom (items_counted z l)) env = list-indexed (items_counted z l) l env o (ap is_some q)
    (c ∙ sym (ap (option_map (λ u. number (pos (length (items_of u))))) q)) (items_counted-met z l env m) in
    listed (indices_of v) (map number (one_to (length (items_of v))))
    (sym (ap (option_map indices_of) q) ∙ r.indices ∙ slots-members (items_counted z l) env (length (items_of v)) c)

-- ---- two matrices that are there, the first of which is a list

module _ (x z : Text) (n : Ex) (t u : Ty) (a b : Ex) (env : Env) (v w : Value) (new-a : Unused x a) (new-b : Unused x b)
    (j : meaning a env ≡ Some v) (k : meaning b env ≡ Some w) (m : MatrixOf env.positions env.types t v)
    (o : MatrixOf env.positions env.types u w) (laid : is_laid_open a ≡ true) (bound : IsBound n a env) (met-a : Meets a env)
    (met-b : Meets b env) where
  abbrev Same : Value → Bool
  Same i = equal_options t u (item_at m.indices m.parts i) (item_at o.indices o.parts i)

  both-mean : meaning (ex2 true Op2.Eq a b) env ≡ Some (truth (same (matrix m.indices m.parts) (matrix o.indices o.parts)))
  both-mean = binary-means env true Op2.Eq a b v w j k ∙ ap (λ y. Some (truth (same y w))) m.is_matrix
      ∙ ap (λ y. Some (truth (same (matrix m.indices m.parts) y))) o.is_matrix

  items-mean : (i : Value) → meaning (items_compared Op2.Eq t u x a b) (behind x i env) ≡ Some (truth (Same i))
  items-mean i =
      ap (λ c. false_where_undefined true (value_of_node (binary Op2.Eq) (c ∷ meaning (item_of u b (name_ex x)) (behind x i env) ∷ [])))
      (item-behind x t a env (matrix m.indices m.parts) new-a (j ∙ ap Some m.is_matrix) i)
      ∙ ap (λ c. false_where_undefined true (value_of_node (binary Op2.Eq)
      (false_where_undefined (is_bool (Some t)) (item_at m.indices m.parts i) ∷ c ∷ [])))
      (item-behind x u b env (matrix o.indices o.parts) new-b (k ∙ ap Some o.is_matrix) i)

  own-indices : to_list m.indices ≡ map number (one_to (length (items_of v)))
  own-indices = sym (ap indices_of m.is_matrix) ∙ indices-are z a env v laid j met-a

  own-number : meaning (items_counted z a) env ≡ whole (pos (length (to_list m.indices)))
  own-number = items_counted-means z a env v j ∙ ap (λ c. whole (pos c)) (ap (λ y. length (items_of y)) m.is_matrix ∙ sym m.as_many)

  each-equal : meaning (at_each_number x z n a (items_compared Op2.Eq t u x a b)) env ≡ Some (truth (list_all Same (to_list m.indices)))
  each-equal = each-number x z n a env new-a v j bound (items_compared Op2.Eq t u x a b) Same items-mean
      ∙ ap (λ l. Some (truth (list_all Same l))) (sym own-indices)

  each-met : Meets (at_each_number x z n a (items_compared Op2.Eq t u x a b)) env
  each-met = (
    numbers-met x z n a env new-a v j bound (λ here. Meets (items_compared Op2.Eq t u x a b) here) met-a
        (λ i. ((meets-behind x i a env new-a met-a, (tt, tt)), ((meets-behind x i b env new-b met-b, (tt, tt)), tt))),
    tt,
  )

  -- The other one is a list, too.
  pub lists-mean : is_laid_open b ≡ true → meaning (ex2 true Op2.Eq a b) env ≡ meaning (equal_lists x z n t u a b) env
  lists-mean l = both-mean
      ∙ ap (λ c. Some (truth c)) (lists-equal env.positions env.types t u m.indices o.indices m.parts o.parts m.rising o.rising m.as_many
      o.as_many m.typed o.typed (length (items_of v)) (length (items_of w)) own-indices
      (sym (ap indices_of o.is_matrix) ∙ indices-are z b env w l k met-b))
      ∙ sym (and-means env (as_many_items z a (items_counted z b)) (at_each_number x z n a (items_compared Op2.Eq t u x a b)) _ _
      (binary-means env true Op2.Eq (items_counted z a) (items_counted z b) (number (pos (length (to_list m.indices))))
      (number (pos (length (to_list o.indices)))) own-number
      (items_counted-means z b env w k ∙ ap (λ c. whole (pos c)) (ap (λ y. length (items_of y)) o.is_matrix ∙ sym o.as_many)))
      each-equal)

  pub lists-met : Meets (equal_lists x z n t u a b) env
  lists-met = ((items_counted-met z a env met-a, (items_counted-met z b env met-b, tt)), λ h. (each-met, tt))

  -- The other one has its index domain told.
  module _ (apart : same_text z x ≡ false) (d : Dom) (other : IndexedBy b d env) (new-d : UnusedDom x d) where
    abbrev Among : Ex
    Among = some_over z d (ex2 true Op2.Eq (name_ex z) (name_ex x))

    its-indices : members_in (domain_of d env) ≡ Some (to_list o.indices)
    its-indices = sym other.indices ∙ ap (option_map indices_of) (k ∙ ap Some o.is_matrix)

    other-name : (i y : Value) → meaning (name_ex x) (behind z y (behind x i env)) ≡ Some i
    other-name i y = ap (λ c. if c then Some y else meaning (name_ex x) (behind x i env)) apart ∙ name-behind x i env

    among-means : (i : Value) → meaning Among (behind x i env) ≡ Some (truth (holds (to_list o.indices) i))
    among-means i = some-means z d (ex2 true Op2.Eq (name_ex z) (name_ex x)) (behind x i env) (λ y. same y i) (to_list o.indices)
        (ap members_in
        (domain-agree env.positions env.types env.cells (but x) d env.vals ((x, i) ∷ env.vals) new-d (agree-but x i env.vals))
        ∙ its-indices)
        (λ y. binary-means (behind z y (behind x i env)) true Op2.Eq (name_ex z) (name_ex x) y i (name-behind z y (behind x i env))
        (other-name i y))
        ∙ ap (λ c. Some (truth c)) (any-holds (to_list o.indices) i)

    among-met : (i : Value) → Meets Among (behind x i env)
    among-met i = (
      (
        meets-agree-dom env.positions env.types env.cells (but x) d env.vals ((x, i) ∷ env.vals) new-d (agree-but x i env.vals) other.met,
        each-of-any (members_in (domain_of d (behind x i env))) _ (λ y. (tt, (tt, tt))),
      ),
      tt,
    )

    abbrev Lengths : Ex
    Lengths = as_many_items z a (members_counted z d)

    abbrev Within : Ex
    Within = at_each_number x z n a Among

    pub over-mean : meaning (ex2 true Op2.Eq a b) env ≡ meaning (equal_over d x z n t u a b) env
    over-mean = both-mean
        ∙ ap (λ c. Some (truth c)) (over-equal env.positions env.types t u m.indices o.indices m.parts o.parts m.rising o.rising m.as_many
        o.as_many m.typed o.typed)
        ∙ sym (and-means env (ex2 true Op2.And Lengths Within) (at_each_number x z n a (items_compared Op2.Eq t u x a b)) _ _
        (and-means env Lengths Within _ _
        (binary-means env true Op2.Eq (items_counted z a) (members_counted z d) (number (pos (length (to_list m.indices))))
        (number (pos (length (to_list o.indices)))) own-number (count-means z d env (to_list o.indices) its-indices))
        (each-number x z n a env new-a v j bound Among (holds (to_list o.indices)) among-means
        ∙ ap (λ l. Some (truth (list_all (holds (to_list o.indices)) l))) (sym own-indices)))
        each-equal)

    pub over-met : Meets (equal_over d x z n t u a b) env
    over-met = (
      (
        (
          items_counted-met z a env met-a,
          (((other.met, each-of-any (members_in (domain_of d env)) _ (λ y. tt)), tt), tt),
        ),
        λ h. ((numbers-met x z n a env new-a v j bound (λ here. Meets Among here) met-a among-met, tt), tt),
      ),
      λ h. (each-met, tt),
    )
