-- How many items a list has at most is a number that has marks, where the list has a type and marks, and binds no name of a table.
use Rattle.std.proofs.Common.{◌≡◌, refl, ap, subst, ℕ, zero, suc, Bool, true, false, not, List, [], ◌∷◌, pos, Option, Some, None, option_map}
use Rattle.ess_semantics.specs.declared.words.Fun.{Fun}
use Rattle.ess_semantics.specs.Lists.{and_then, all_some}
use Rattle.ess_semantics.specs.Values.{Text, a_matrix}
use Rattle.ess_semantics.specs.Order.{same_text}
use Rattle.ess_semantics.specs.Names.{Names}
use Rattle.ess_semantics.specs.Constants.{operand_count}
use Rattle.ess_semantics.specs.Trees.{Step, index, application, word, tuple_literal, matrix_literal, function_literal, record_literal, Ex, Exs, number_ex, node_ex, matrix_ex, comp_ex, seen_ex, no_exs, more_exs, Gens, no_gens, over, from, cond}
use Rattle.ess_semantics.specs.Types.{Ty, any_ty, int_ty, compound2, or_any, join_all, type_of_dom, bind_types}
use Rattle.ess_semantics.specs.OperatorTypes.{type_of_op, member_ty}
use Rattle.ess_semantics.specs.Typing.{Static, static, statics, type_of_node, type_of, types_of, types_under}
use Rattle.ess_semantics.specs.Substitution.{NamesAre, NamesAreExs, NamesAreGens}
use Rattle.ess_types_laws.proofs.ResolvedTypes.{behind-types}
use Rattle.ess_guard_laws.specs.IndexDomains.{first_index}
use Rattle.ess_refine_laws.specs.MarksStay.{HasMarks, HaveMarks, GensHaveMarks, DomHasMarks, DomsHaveMarks}
use Rattle.ess_refine_laws.specs.AllRules.{OfSome}
use Rattle.ess_refine_types_laws.proofs.TypesOfListed.{heads, all-is, then-is}
use Rattle.ess_rules_types_laws.specs.PutTypes.{TablesAre, AllTablesAre, GensTablesAre, DomTablesAre, DomsTablesAre}
use Rattle.ess_ordered_types_laws.proofs.ConditionsTyped.{condition-is, behind-source}
use Rattle.ess_ordered_laws.specs.NumberedItems.{is_from_one}
use Rattle.ess_numbered_laws.specs.MostItems.{Pick, an_item, a_result, a_component, a_field, pick_of, dom_along, most, most_behind, most_of_each, most_at, most_of_field}
use Rattle.ess_numbered_types_laws.specs.NumberedTyped.{BindsNoTable}
use Rattle.ess_numbered_laws.proofs.ReachedDomains.{axis-passed}
use Rattle.ess_numbered_types_laws.proofs.NumbersTyped.{IsNumber, AreNumbers, summed, more, over-domain, under-a-condition, over-source, either-field, passes, members, told-number}

-- ---- types of parts

-- A comprehension has the type of a list, and its parts have types.
pub list-is : (o : Option (Names Ty)) (F : Names Ty → Option Ty) (v : Ty) →
    and_then o (λ h. option_map (compound2 a_matrix int_ty) (F h)) ≡ Some v →
    (h : Names Ty) × (u : Ty) × (o ≡ Some h) × (F h ≡ Some u) × (v ≡ compound2 a_matrix int_ty u)
list-is None F v q = ([], any_ty, cc, cc, cc)
list-is (Some h) F v q = go (F h) refl q
  where
    go : (p : Option Ty) → F h ≡ p → option_map (compound2 a_matrix int_ty) p ≡ Some v →
        (k : Names Ty) × (u : Ty) × (Some h ≡ Some k) × (F k ≡ Some u) × (v ≡ compound2 a_matrix int_ty u)
    go None i q = ([], any_ty, cc, cc, cc)
    go (Some u) i q = (h, u, refl, i, cc)

-- The first operand of an index, and of another operator.
of-index : (o : Option Ty) (qs : List Step) (ss : List Static) (us : List (Option Ty)) (v : Ty) →
    type_of_node (index qs) ss (o ∷ us) ≡ Some v → (t : Ty) × (o ≡ Some t)
of-index None qs ss us v q = (any_ty, cc)
of-index (Some t) qs ss us v q = (t, refl)

of-operator : (o : Option Ty) (us : List (Option Ty)) (F : List Ty → Option Ty) (v : Ty) → and_then (all_some (o ∷ us)) F ≡ Some v →
    (t : Ty) × (o ≡ Some t)
of-operator None us F v q = (any_ty, cc)
of-operator (Some t) us F v q = (t, refl)

module _ (w : Text → Bool) where
  -- ---- trees

  -- The tree has marks, its tables are among w, and the names that it binds aren't.
  abbrev pub Fit : Names Ty → Ex → Type 0
  Fit g e = HasMarks e g × TablesAre w e × NamesAre (λ a. true) (λ a. not (w a)) e

  -- So it is of several.
  abbrev pub AllFit : Names Ty → Exs → Type 0
  AllFit g es = HaveMarks es g × AllTablesAre w es × NamesAreExs (λ a. true) (λ a. not (w a)) es

  -- And of generators.
  abbrev pub GensFit : Names Ty → Gens → Type 0
  GensFit g gs = GensHaveMarks gs g × GensTablesAre w gs × NamesAreGens (λ a. true) (λ a. not (w a)) gs

  module _ (z : Text) where
    then-number : (g : Names Ty) (f : Ex → Option Ex) (h : Names Ty) → ((n : Ex) → IsNumber w h n → OfSome (f n) (IsNumber w g)) →
        (o : Option Ex) → OfSome o (IsNumber w h) → OfSome (and_then o f) (IsNumber w g)
    then-number g f h k None i = tt
    then-number g f h k (Some n) i = k n i

    mutual
      -- Of what steps reach from a term.
      pub most-number : (ps : List Pick) (e : Ex) (g : Names Ty) (v : Ty) → type_of e g ≡ Some v → Fit g e →
          OfSome (most z ps e) (IsNumber w g)
      most-number ps (node_ex b (index (q ∷ [])) (more_exs t is)) g v i f =
          let r = of-index (type_of t g) (q ∷ []) (static t ∷ statics is) (types_of is g) v i in
          most-number (pick_of q ∷ ps) t g r.0 r.1 (f.0.1.0, f.1.0, f.2.0)
      most-number ps (node_ex b application (more_exs t is)) g v i f =
          let r = of-operator (type_of t g) (types_of is g) (type_of_op application) v i in
          most-number (a_result ∷ ps) t g r.0 r.1 (f.0.1.0, f.1.0, f.2.0)
      most-number ps (node_ex b (word Fun.Image) (more_exs t is)) g v i f =
          let r = of-operator (type_of t g) (types_of is g) (type_of_op (word Fun.Image)) v i in
          most-number (a_result ∷ ps) t g r.0 r.1 (f.0.1.0, f.1.0, f.2.0)
      most-number [] (node_ex false matrix_literal es) g v i f = record { typed = refl; marked = tt; tables = tt }
      most-number (an_item ∷ ps) (node_ex false matrix_literal es) g v i f =
          let r = all-is (all_some (types_of es g)) (type_of_op matrix_literal) v i in
          summed w g (most_of_each z ps es) (each-number ps es g r.0 r.1 (f.0.1, f.1, f.2))
      most-number (a_component k ∷ ps) (node_ex false tuple_literal es) g v i f =
          let r = all-is (all_some (types_of es g)) (type_of_op tuple_literal) v i in at-number k ps es g r.0 r.1 (f.0.1, f.1, f.2)
      most-number (a_field a ∷ ps) (node_ex false (record_literal fs) es) g v i f =
          let r = all-is (all_some (types_of es g)) (type_of_op (record_literal fs)) v i in
          field-number a fs ps es g r.0 r.1 (f.0.1, f.1, f.2)
      most-number (a_result ∷ ps) (node_ex false function_literal es) g v i f =
          let r = all-is (all_some (types_of es g)) (type_of_op function_literal) v i in
          summed w g (most_of_each z (a_component 2 ∷ ps) es) (each-number (a_component 2 ∷ ps) es g r.0 r.1 (f.0.1, f.1, f.2))
      most-number [] (matrix_ex es d) g v i f = told-number w g (is_from_one d) (operand_count es)
      most-number (an_item ∷ ps) (matrix_ex es d) g v i f =
          let r = all-is (all_some (types_of es g)) (λ ts. option_map (compound2 a_matrix (type_of_dom d)) (join_all ts)) v i in
          summed w g (most_of_each z ps es) (each-number ps es g r.0 r.1 (f.0.0, f.1.0, f.2.0))
      most-number [] (comp_ex e gs) g v i f =
          let r = list-is (types_under gs g) (type_of e) v i in
          behind-number gs g r.0 r.2 (f.0.0, f.1.0, f.2.1) (number_ex (pos 1)) (record { typed = refl; marked = tt; tables = tt })
      most-number (an_item ∷ ps) (comp_ex e gs) g v i f =
          let r = list-is (types_under gs g) (type_of e) v i in
          then-number g (most_behind z gs) r.0 (behind-number gs g r.0 r.2 (f.0.0, f.1.0, f.2.1)) (most z ps e)
          (most-number ps e r.0 r.1 r.3 (subst (HasMarks e) (behind-types gs g r.0 r.2) f.0.1, f.1.1, f.2.0))
      most-number ps (seen_ex r d ns es) g v i f =
          members w g z (first_index (dom_along ps (Some d)))
          (axis-passed (λ c. DomHasMarks c g × DomTablesAre w c) (λ cs. DomsHaveMarks cs g × DomsTablesAre w cs) (passes w g) ps d
          (f.0.0, f.1.0))
      most-number _ _ g v i f = tt

      -- At each binding of generators.
      behind-number : (gs : Gens) (g h : Names Ty) → types_under gs g ≡ Some h → GensFit g gs → (n : Ex) → IsNumber w h n →
          OfSome (most_behind z gs n) (IsNumber w g)
      behind-number no_gens g h q f n i = subst (λ k. IsNumber w k n) (let j : h ≡ g = cc in j) i
      behind-number (over p d gs) g h q f n i = over-domain w g p d f.0.0 f.1.0 (most_behind z gs n)
          (behind-number gs (bind_types p (type_of_dom d) g) h q (f.0.1, f.1.1, f.2.2) n i)
      behind-number (from p t gs) g h q f n i =
          let r = behind-source (and_then (type_of t g) member_ty) (λ m. types_under gs (bind_types p m g)) h q in
          let u = then-is (type_of t g) member_ty r.0 r.1 in
          over-source w g p r.0 (most z [] t) (most_behind z gs n) f.2.0
          (most-number [] t g u.0 u.1 (f.0.1, f.1.0, f.2.1))
          (behind-number gs (bind_types p r.0 g) h r.2
          (subst (λ m. GensHaveMarks gs (bind_types p m g)) (ap or_any r.1) f.0.2, f.1.1, f.2.2) n i)
      behind-number (cond c gs) g h q f n i =
          let r = condition-is (type_of c g) (types_under gs g) h q in
          under-a-condition w g c r.truth r.typed r.is_truth f.0.0 f.1.0
          (most_behind z gs n) (behind-number gs g h r.rest (f.0.1, f.1.1, f.2.1) n i)

      each-number : (ps : List Pick) (es : Exs) (g : Names Ty) (ts : List Ty) → all_some (types_of es g) ≡ Some ts → AllFit g es →
          OfSome (most_of_each z ps es) (AreNumbers w g)
      each-number ps no_exs g ts q f = (tt, tt, tt)
      each-number ps (more_exs e es) g ts q f =
          let r = heads (type_of e g) (all_some (types_of es g)) ts q in
          more w g (most z ps e) (most_of_each z ps es) (most-number ps e g r.0 r.2 (f.0.0, f.1.0, f.2.0))
          (each-number ps es g r.1 r.3 (f.0.1, f.1.1, f.2.1))

      at-number : (k : ℕ) (ps : List Pick) (es : Exs) (g : Names Ty) (ts : List Ty) → all_some (types_of es g) ≡ Some ts → AllFit g es →
          OfSome (most_at k z ps es) (IsNumber w g)
      at-number k ps no_exs g ts q f = tt
      at-number zero ps (more_exs e es) g ts q f = tt
      at-number (suc zero) ps (more_exs e es) g ts q f =
          let r = heads (type_of e g) (all_some (types_of es g)) ts q in most-number ps e g r.0 r.2 (f.0.0, f.1.0, f.2.0)
      at-number (suc (suc k)) ps (more_exs e es) g ts q f =
          let r = heads (type_of e g) (all_some (types_of es g)) ts q in at-number (suc k) ps es g r.1 r.3 (f.0.1, f.1.1, f.2.1)

      field-number : (a : Text) (fs : List Text) (ps : List Pick) (es : Exs) (g : Names Ty) (ts : List Ty) →
          all_some (types_of es g) ≡ Some ts → AllFit g es → OfSome (most_of_field a fs z ps es) (IsNumber w g)
      field-number a (b ∷ fs) ps (more_exs e es) g ts q f =
          let r = heads (type_of e g) (all_some (types_of es g)) ts q in
          either-field w g (same_text b a) (most z ps e) (most_of_field a fs z ps es) (most-number ps e g r.0 r.2 (f.0.0, f.1.0, f.2.0))
          (field-number a fs ps es g r.1 r.3 (f.0.1, f.1.1, f.2.1))
      field-number a [] ps es g ts q f = tt
      field-number a (b ∷ fs) ps no_exs g ts q f = tt

-- So it has marks.
pub most-marked : (z : Text) (e n : Ex) (g : Names Ty) (v : Ty) → most z [] e ≡ Some n → type_of e g ≡ Some v → HasMarks e g →
    BindsNoTable e → HasMarks n g
most-marked z e n g v q i m b = (go b).marked
  where
    go : (b : BindsNoTable e) → IsNumber b.0 g n
    go b = subst (λ o. OfSome o (IsNumber b.0 g)) q (most-number b.0 z [] e g v i (m, b.1, b.2))
