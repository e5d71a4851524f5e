-- Numbers that have marks, and whose tables are among some names: so are what is made of them for the most items of a list.
use Rattle.std.proofs.Common.{◌≡◌, refl, sym, ap, ◌∙◌, subst, ℕ, Bool, true, false, not, if◌then◌else◌, [], ◌∷◌, pos, Option, Some, None, option_map}
use Rattle.std.specs.Prelude.{IsTrue}
use Rattle.ess_semantics.specs.declared.words.Op2.{Op2}
use Rattle.ess_semantics.specs.declared.words.Fun.{Fun}
use Rattle.ess_semantics.specs.Lists.{and_then}
use Rattle.ess_semantics.specs.Values.{Text, a_matrix}
use Rattle.ess_semantics.specs.Order.{same_text}
use Rattle.ess_semantics.specs.Names.{Names, look}
use Rattle.ess_semantics.specs.Occurrences.{free_of, has_cells}
use Rattle.ess_semantics.specs.Trees.{binary, word, Pat, name_pat, tuple_pat, Ex, Exs, number_ex, comp_ex, no_exs, more_exs, Gens, no_gens, over, cond, Dom, ex2}
use Rattle.ess_semantics.specs.Types.{Ty, bool_ty, int_ty, compound2, type_of_dom, bind_types}
use Rattle.ess_semantics.specs.OperatorTypes.{type_of_op}
use Rattle.ess_semantics.specs.Typing.{type_of, types_under}
use Rattle.ess_semantics.specs.Substitution.{Binds}
use Rattle.ess_types_laws.proofs.ResolvedTypes.{behind-types}
use Rattle.ess_guard_types_laws.proofs.JoinedTypes.{Agree}
use Rattle.ess_guard_laws.specs.IndexDomains.{plain_axis}
use Rattle.ess_refine_laws.specs.MarksStay.{HasMarks, HaveMarks, DomHasMarks, DomsHaveMarks}
use Rattle.ess_refine_laws.specs.AllRules.{OfSome}
use Rattle.ess_refine_types_laws.specs.MarksOfContainers.{IsNewTo}
use Rattle.ess_refine_types_laws.proofs.MarksBehind.{fewer, marks-same}
use Rattle.ess_refine_types_laws.proofs.TypeNames.{type-behind}
use Rattle.ess_refine_types_laws.proofs.TypeParts.{one-to, two-to}
use Rattle.ess_refine_types_laws.proofs.TypesOfListed.{AllOf, sum-type}
use Rattle.ess_rules_types_laws.specs.PutTypes.{TablesAre, AllTablesAre, GensTablesAre, DomTablesAre, DomsTablesAre}
use Rattle.ess_rules_marks_laws.proofs.Grows.{as_it_is, a_node, a_comp, none_grow, more_grow, GensGrow, no_gens_grow, over_grows, cond_grows, grown, all-are}
use Rattle.ess_ordered_types_laws.proofs.ConditionsTyped.{under-condition}
use Rattle.ess_ordered_laws.specs.NumberedItems.{is_from_one}
use Rattle.ess_numbered_laws.specs.ThereByForm.{is_there}
use Rattle.ess_numbered_laws.specs.MostItems.{list_axis, sum_at, members_counted, all_summed, behind_condition, so_often}
use Rattle.ess_numbered_types_laws.proofs.FreeNames.{free-new}
use Rattle.ess_numbered_laws.proofs.ReachedDomains.{PassesOn}

module _ (w : Text → Bool) where
  -- ---- numbers

  -- The term is a number, has marks, and its tables are among w.
  pub record IsNumber (g : Names Ty) (n : Ex) : Type 0 where
    pub typed : type_of n g ≡ Some int_ty
    pub marked : HasMarks n g
    pub tables : TablesAre w n

  -- So are these.
  abbrev pub AreNumbers : Names Ty → Exs → Type 0
  AreNumbers g ns = AllOf g int_ty ns × HaveMarks ns g × AllTablesAre w ns

  module _ (g : Names Ty) where
    -- Their sum.
    pub summed : (o : Option Exs) → OfSome o (AreNumbers g) → OfSome (option_map all_summed o) (IsNumber g)
    summed None h = tt
    summed (Some ns) h = record {
      typed = sum-type g ns h.0;
      marked = grown g (all_summed ns) (a_node refl (more_grow (a_node refl (all-are g ns h.1)) none_grow)) int_ty (sum-type g ns h.0);
      tables = (h.2, tt);
    }

    -- One more of them.
    pub more : (o : Option Ex) (p : Option Exs) → OfSome o (IsNumber g) → OfSome p (AreNumbers g) →
        OfSome (and_then o (λ n. option_map (more_exs n) p)) (AreNumbers g)
    more None p h k = tt
    more (Some n) None h k = tt
    more (Some n) (Some ns) h k = ((h.typed, k.0), (h.marked, k.1), (h.tables, k.2))

    -- The sum of such numbers at generators.
    sum-number : (n : Ex) (gs : Gens) (h : Names Ty) → types_under gs g ≡ Some h → GensGrow g gs → GensTablesAre w gs → IsNumber h n →
        IsNumber g (sum_at n gs)
    sum-number n gs h q k t i = record { typed = typed; marked = marked; tables = ((t, i.tables), tt) }
      where
        typed : type_of (sum_at n gs) g ≡ Some int_ty
        typed = one-to (type_of (comp_ex n gs) g) (type_of_op (word Fun.Sum)) (compound2 a_matrix int_ty int_ty) int_ty
            (ap (λ o. and_then o (λ z. option_map (compound2 a_matrix int_ty) (type_of n z))) q
            ∙ ap (option_map (compound2 a_matrix int_ty)) i.typed) refl

        marked : HasMarks (sum_at n gs) g
        marked = grown g (sum_at n gs) (a_node refl (more_grow (a_comp k
            (as_it_is (subst (HasMarks n) (sym (behind-types gs g h q)) i.marked))) none_grow)) int_ty typed

    -- Summed over a domain.
    pub over-domain : (p : Pat) (d : Dom) → DomHasMarks d g → DomTablesAre w d → (o : Option Ex) →
        OfSome o (IsNumber (bind_types p (type_of_dom d) g)) → OfSome (option_map (λ n. sum_at n (over p d no_gens)) o) (IsNumber g)
    over-domain p d m t None h = tt
    over-domain p d m t (Some n) h =
        sum-number n (over p d no_gens) (bind_types p (type_of_dom d) g) refl (over_grows m no_gens_grow) (t, tt) h

    -- Under a condition.
    pub under-a-condition : (c : Ex) (t : Ty) → type_of c g ≡ Some t → Agree t bool_ty → HasMarks c g → TablesAre w c → (o : Option Ex) →
        OfSome o (IsNumber g) → OfSome (and_then o (behind_condition c)) (IsNumber g)
    under-a-condition c t q i m k None h = tt
    under-a-condition c t q i m k (Some n) h = go (has_cells c)
      where
        there : (b : Bool) → OfSome (if b then Some n else None) (IsNumber g)
        there true = h
        there false = tt

        go : (b : Bool) → OfSome (if b then (if is_there n then Some n else None) else Some (sum_at n (cond c no_gens))) (IsNumber g)
        go true = there (is_there n)
        go false = sum-number n (cond c no_gens) g (under-condition g c t q i) (cond_grows (as_it_is m) no_gens_grow) (k, tt) h

    times : (k n : Ex) → IsNumber g k → IsNumber g n → IsNumber g (ex2 false Op2.Times k n)
    times k n i j = record {
      typed = typed;
      marked = grown g (ex2 false Op2.Times k n) (a_node refl (more_grow (as_it_is i.marked) (more_grow (as_it_is j.marked) none_grow)))
          int_ty typed;
      tables = (i.tables, (j.tables, tt));
    }
      where
        typed : type_of (ex2 false Op2.Times k n) g ≡ Some int_ty
        typed = two-to (type_of k g) (type_of n g) (type_of_op (binary Op2.Times)) int_ty int_ty int_ty i.typed j.typed refl

    -- A number outside of a name on which it doesn't depend.
    outside : (y : Text) (m : Ty) (n : Ex) → IsNewTo y n → IsNumber ((y, m) ∷ g) n → IsNumber g n
    outside y m n new i = record {
      typed = sym (type-behind y m n g (fewer (λ a. not (same_text y a)) n new)) ∙ i.typed;
      marked = marks-same (λ a. not (same_text y a)) n ((y, m) ∷ g) g new (λ a k. go (same_text y a) (look g a) k) i.marked;
      tables = i.tables;
    }
      where
        go : (b : Bool) (o : Option Ty) → IsTrue (not b) → (if b then Some m else o) ≡ o
        go true o k = cc
        go false o k = refl

    often : (p : Pat) (m : Ty) (k n : Ex) → Binds (λ a. not (w a)) p → IsNumber g k → IsNumber (bind_types p m g) n →
        OfSome (so_often p k n) (IsNumber g)
    often (name_pat y) m k n b i j = go (free_of (y ∷ []) (more_exs n no_exs)) refl
      where
        go : (c : Bool) → free_of (y ∷ []) (more_exs n no_exs) ≡ c →
            OfSome (if c then Some (ex2 false Op2.Times k n) else None) (IsNumber g)
        go true q = times k n i (outside y m n (free-new y w b n q j.tables) j)
        go false q = tt
    often (tuple_pat ps) m k n b i j = tt

    -- Where a source is at most so long, and what is behind it is such a number.
    pub over-source : (p : Pat) (m : Ty) (o q : Option Ex) → Binds (λ a. not (w a)) p → OfSome o (IsNumber g) →
        OfSome q (IsNumber (bind_types p m g)) → OfSome (and_then o (λ k. and_then q (so_often p k))) (IsNumber g)
    over-source p m None q b i j = tt
    over-source p m (Some k) None b i j = tt
    over-source p m (Some k) (Some n) b i j = often p m k n b i j

    -- One of two.
    pub either-field : (b : Bool) (o q : Option Ex) → OfSome o (IsNumber g) → OfSome q (IsNumber g) →
        OfSome (if b then o else q) (IsNumber g)
    either-field true o q h k = h
    either-field false o q h k = k

    -- ---- index domains of views

    -- Domains that have marks, and whose tables are among w, pass it on to their parts.
    pub passes : PassesOn (λ d. DomHasMarks d g × DomTablesAre w d) (λ ds. DomsHaveMarks ds g × DomsTablesAre w ds)
    passes = record {
      of_several = λ d ds h. ((h.0.0, h.1.0), (h.0.1, h.1.1));
      of_tuple = λ ds h. h;
      of_record = λ fs ds h. h;
      of_matrix = λ is d h. ((h.0.0, h.1.0), (h.0.1, h.1.1));
      to_matrix = λ is d h k. ((h.0, k.0), (h.1, k.1));
      of_results = λ ms es d c h. (h.0.2, h.1.2);
    }

    -- How many members the index domain of a list has.
    pub members : (z : Text) (o : Option Dom) → OfSome (plain_axis o) (λ d. DomHasMarks d g × DomTablesAre w d) →
        OfSome (option_map (members_counted z) (list_axis o)) (IsNumber g)
    members z None h = tt
    members z (Some d) h = go (is_from_one d) (plain_axis (Some d)) h
      where
        go : (c : Bool) (o : Option Dom) → OfSome o (λ d. DomHasMarks d g × DomTablesAre w d) →
            OfSome (option_map (members_counted z) (if c then o else None)) (IsNumber g)
        go false o k = tt
        go true None k = tt
        go true (Some i) k = sum-number (number_ex (pos 1)) (over (name_pat z) i no_gens) ((z, type_of_dom i) ∷ g) refl
            (over_grows k.0 no_gens_grow) (k.1, tt) (record { typed = refl; marked = tt; tables = tt })

    -- A number that is told, where it is.
    pub told-number : (c : Bool) (n : ℕ) → OfSome (if c then Some (number_ex (pos n)) else None) (IsNumber g)
    told-number true n = record { typed = refl; marked = tt; tables = tt }
    told-number false n = tt
