-- What says how many items a list has at most is right.
use Rattle.std.proofs.Common.{◌≡◌, refl, ap, ◌∙◌, subst, ℕ, zero, suc, Bool, true, false, if◌then◌else◌, List, [], ◌∷◌, length, pos, Option, Some, None}
use Rattle.std.specs.Prelude.{is_some}
use Rattle.std.proofs.lemmas.Bool.{leb-true}
use Rattle.ess_semantics.specs.declared.words.Fun.{Fun}
use Rattle.ess_semantics.specs.Lists.{is_some_and, all_some, or_default}
use Rattle.ess_semantics.specs.Values.{Text, Value, of_list, items_of}
use Rattle.ess_semantics.specs.Order.{same_text}
use Rattle.ess_semantics.specs.Occurrences.{parts_of, parts_of_all}
use Rattle.ess_semantics.specs.Trees.{word, index, application, tuple_literal, matrix_literal, function_literal, record_literal, Ex, Exs, number_ex, node_ex, matrix_ex, comp_ex, seen_ex, no_exs, more_exs, Gens, no_gens, over, from, cond}
use Rattle.ess_semantics.specs.Operators.{misfit, component}
use Rattle.ess_semantics.specs.Meaning.{Env, meaning, meanings}
use Rattle.ess_semantics.proofs.Tests.{some-and}
use Rattle.ess_guard_laws.specs.IndexDomains.{first_index}
use Rattle.ess_rules_laws.specs.FieldLiterals.{field_term}
use Rattle.ess_numbered_laws.specs.MostItems.{Pick, an_item, a_result, a_component, a_field, pick_of, dom_along, all_summed, members_counted, most, most_behind, most_of_each, most_at, most_of_field, so_often, behind_condition, list_axis}
use Rattle.ess_numbered_laws.specs.BoundLaws.{reach_at_most, MostItemsBound}
use Rattle.ess_numbered_laws.proofs.Answered.{Answered, answered-map, answered-then, answered-weaker, answered-both, answered-under}
use Rattle.ess_numbered_laws.proofs.MostNumbers.{IsNatural, AreNatural, literal-natural, most-natural, behind-natural, each-natural}
use Rattle.ess_numbered_laws.proofs.BoundedGenerators.{each-left, each-right, Here, Good, Bounds, Behind, behind-over, behind-from, behind-cond}
use Rattle.ess_numbered_laws.proofs.OperandsThere.{first-there, plain-same}
use Rattle.ess_numbered_laws.proofs.BoundedTerms.{EachBound, PlaceBound, FieldBound, no-more, one-more, of-index, of-application, of-image, of-literal, of-matrix, of-literal-items, of-matrix-items, of-tuple, of-record, of-function, of-comp, of-comp-items, of-view}
use Rattle.ess_numbered_laws.proofs.ListAxes.{list-plain}
use Rattle.ess_ordered_laws.specs.NumberedItems.{is_from_one}
use Rattle.ess_semantics.specs.Constants.{operand_count}

module _ (base : Env) where
  mutual
    -- What `most` says of a term.
    pub bound : (z : Text) (ps : List Pick) (t : Ex) → Answered (most z ps t) (Bounds base ps t)
    bound z ps (node_ex b (index (q ∷ [])) (more_exs t is)) =
        answered-weaker (Bounds base (pick_of q ∷ ps) t) (Bounds base ps (node_ex b (index (q ∷ [])) (more_exs t is)))
        (most z (pick_of q ∷ ps) t) (bound z (pick_of q ∷ ps) t) (λ n. of-index base b q t is ps n)
    bound z ps (node_ex b application (more_exs f is)) =
        answered-weaker (Bounds base (a_result ∷ ps) f) (Bounds base ps (node_ex b application (more_exs f is)))
        (most z (a_result ∷ ps) f) (bound z (a_result ∷ ps) f) (λ n. of-application base b f is ps n)
    bound z ps (node_ex b (word Fun.Image) (more_exs f is)) =
        answered-weaker (Bounds base (a_result ∷ ps) f) (Bounds base ps (node_ex b (word Fun.Image) (more_exs f is)))
        (most z (a_result ∷ ps) f) (bound z (a_result ∷ ps) f) (λ n. of-image base b f is ps n)
    bound z [] (node_ex false matrix_literal es) = of-literal base es
    bound z (an_item ∷ ps) (node_ex false matrix_literal es) =
        answered-map (Bounds base (an_item ∷ ps) (node_ex false matrix_literal es)) (most_of_each z ps es) all_summed (each-bound z ps es)
        (λ ns h. of-literal-items base es ns ps h)
    bound z (a_component k ∷ ps) (node_ex false tuple_literal es) =
        answered-weaker (PlaceBound base k ps es) (Bounds base (a_component k ∷ ps) (node_ex false tuple_literal es)) (most_at k z ps es)
        (place-bound k z ps es) (λ n. of-tuple base k ps es n)
    bound z (a_field a ∷ ps) (node_ex false (record_literal fs) es) =
        answered-weaker (FieldBound base a fs ps es) (Bounds base (a_field a ∷ ps) (node_ex false (record_literal fs) es))
        (most_of_field a fs z ps es) (field-bound a fs z ps es) (λ n. of-record base a fs ps es n)
    bound z (a_result ∷ ps) (node_ex false function_literal es) =
        answered-map (Bounds base (a_result ∷ ps) (node_ex false function_literal es)) (most_of_each z (a_component 2 ∷ ps) es) all_summed
        (each-bound z (a_component 2 ∷ ps) es) (λ ns h. of-function base ps es ns h)
    bound z [] (matrix_ex es d) =
        answered-under (Bounds base [] (matrix_ex es d)) (is_from_one d) (number_ex (pos (operand_count es))) (λ q. of-matrix base es d)
    bound z (an_item ∷ ps) (matrix_ex es d) =
        answered-map (Bounds base (an_item ∷ ps) (matrix_ex es d)) (most_of_each z ps es) all_summed (each-bound z ps es)
        (λ ns h. of-matrix-items base es ns d ps h)
    bound z [] (comp_ex e gs) = answered-weaker (Behind base e gs (number_ex (pos 1))) (Bounds base [] (comp_ex e gs))
        (most_behind z gs (number_ex (pos 1)))
        (behind-bound z gs e (number_ex (pos 1)) (literal-natural 1)) (λ n. of-comp base e gs n)
    bound z (an_item ∷ ps) (comp_ex e gs) =
        answered-then (Bounds base (an_item ∷ ps) (comp_ex e gs)) (most z ps e) (most_behind z gs)
        (answered-both IsNatural (Bounds base ps e) (most z ps e) (most-natural z ps e) (bound z ps e))
        (λ m h. answered-weaker (Behind base e gs m) (Bounds base (an_item ∷ ps) (comp_ex e gs)) (most_behind z gs m)
        (behind-bound z gs e m h.0) (λ n. of-comp-items base ps e gs m n h.1))
    bound z ps (seen_ex r d ns es) =
        answered-map (Bounds base ps (seen_ex r d ns es)) (list_axis (first_index (dom_along ps (Some d)))) (members_counted z)
        (list-plain _ (first_index (dom_along ps (Some d))) (plain-same (first_index (dom_along ps (Some d)))))
        (λ i e. of-view base z ps r d ns es i e)
    bound z ps _ = tt

    behind-bound : (z : Text) (gs : Gens) (e m : Ex) → IsNatural m → Answered (most_behind z gs m) (Behind base e gs m)
    behind-bound z no_gens e m nat = λ f adds leaf good g met k q xs i. leaf g met k q xs i
    behind-bound z (over p d gs) e m nat =
        answered-map (Behind base e (over p d gs) m) (most_behind z gs m) _
        (answered-both IsNatural (Behind base e gs m) (most_behind z gs m) (behind-natural z gs m nat) (behind-bound z gs e m nat))
        (λ n h. behind-over base e m p d gs n h.0 h.1)
    behind-bound z (from p t gs) e m nat =
        answered-then (Behind base e (from p t gs) m) (most z [] t) _ (answered-both IsNatural (Bounds base [] t) (most z [] t)
        (most-natural z [] t) (bound z [] t))
        (λ l i. answered-then (Behind base e (from p t gs) m) (most_behind z gs m) (so_often p l)
        (answered-both IsNatural (Behind base e gs m) (most_behind z gs m) (behind-natural z gs m nat) (behind-bound z gs e m nat))
        (λ n h. behind-from base e m p t gs l n i.0 h.0 i.1 h.1))
    behind-bound z (cond c gs) e m nat =
        answered-then (Behind base e (cond c gs) m) (most_behind z gs m) (behind_condition c)
        (answered-both IsNatural (Behind base e gs m) (most_behind z gs m) (behind-natural z gs m nat) (behind-bound z gs e m nat))
        (λ n h. behind-cond base e m c gs n h.0 h.1)

    each-bound : (z : Text) (ps : List Pick) (es : Exs) → Answered (most_of_each z ps es) (EachBound base ps es)
    each-bound z ps no_exs = no-more base ps
    each-bound z ps (more_exs e es) =
        answered-then (EachBound base ps (more_exs e es)) (most z ps e) _
        (answered-both IsNatural (Bounds base ps e) (most z ps e) (most-natural z ps e) (bound z ps e))
        (λ n h. answered-map (EachBound base ps (more_exs e es)) (most_of_each z ps es) (more_exs n)
        (answered-both AreNatural (EachBound base ps es) (most_of_each z ps es) (each-natural z ps es) (each-bound z ps es))
        (λ ns k. one-more base ps e n es ns h.0 k.0 h.1 k.1))

    place-bound : (k : ℕ) (z : Text) (ps : List Pick) (es : Exs) → Answered (most_at k z ps es) (PlaceBound base k ps es)
    place-bound k z ps no_exs = tt
    place-bound zero z ps (more_exs e es) = tt
    place-bound (suc zero) z ps (more_exs e es) = answered-weaker (Bounds base ps e) (PlaceBound base 1 ps (more_exs e es)) (most z ps e)
        (bound z ps e) (λ n h good g met k q xs i.
        let r = first-there (meaning e (Here base g)) (all_some (meanings es (Here base g))) xs i in
        subst (λ l. reach_at_most ps k (or_default (component (of_list l) 1) misfit) ≡ true) r.4
        (h (each-left (Good base) (parts_of e) (parts_of_all es) good) g met.0 k q r.0 r.2))
    place-bound (suc (suc j)) z ps (more_exs e es) = answered-weaker (PlaceBound base (suc j) ps es)
        (PlaceBound base (suc (suc j)) ps (more_exs e es))
        (most_at (suc j) z ps es) (place-bound (suc j) z ps es) (λ n h good g met k q xs i.
        let r = first-there (meaning e (Here base g)) (all_some (meanings es (Here base g))) xs i in
        subst (λ l. reach_at_most ps k (or_default (component (of_list l) (suc (suc j))) misfit) ≡ true) r.4
        (h (each-right (Good base) (parts_of e) (parts_of_all es) good) g met.1 k q r.1 r.3))

    field-bound : (a : Text) (fs : List Text) (z : Text) (ps : List Pick) (es : Exs) →
        Answered (most_of_field a fs z ps es) (FieldBound base a fs ps es)
    field-bound a (f ∷ fs) z ps (more_exs e es) = go (same_text f a) refl (bound z ps e) (field-bound a fs z ps es)
      where
        go : (b : Bool) → same_text f a ≡ b → Answered (most z ps e) (Bounds base ps e) →
            Answered (most_of_field a fs z ps es) (FieldBound base a fs ps es) →
            Answered (if b then most z ps e else most_of_field a fs z ps es) (FieldBound base a (f ∷ fs) ps (more_exs e es))
        go true s l r = answered-weaker (Bounds base ps e) (FieldBound base a (f ∷ fs) ps (more_exs e es)) (most z ps e) l
            (λ n h good g met k q. (
              e,
              ap (λ b. if b then Some e else field_term fs es a) s,
              h (each-left (Good base) (parts_of e) (parts_of_all es) good) g met.0 k q,
            ))
        go false s l r = answered-weaker (FieldBound base a fs ps es) (FieldBound base a (f ∷ fs) ps (more_exs e es))
            (most_of_field a fs z ps es) r (λ n h good g met k q.
            let x = h (each-right (Good base) (parts_of e) (parts_of_all es) good) g met.1 k q in
            (x.0, ap (λ b. if b then Some e else field_term fs es a) s ∙ x.1, x.2))
    field-bound a _ z ps _ = tt

-- So it is.
pub most-items-bound : MostItemsBound
most-items-bound z t n q env good met-t met-n there =
    let b = subst (λ o. Answered o (Bounds env [] t)) q (bound env z [] t) in
    let v = some-and (meaning n env) (λ v. true) (at (meaning n env) there) in
    let k = subst (λ o. Answered o IsNatural) q (most-natural z [] t) env v.0 v.1 in record {
      number = k.0;
      value = v.1 ∙ ap Some k.1;
      enough = λ w e. leb-true (length (items_of w)) k.0 (b good env.vals met-t k.0 (v.1 ∙ ap Some k.1) w e);
      met = met-n;
    }
  where
    at : (o : Option Value) → is_some o ≡ true → is_some_and o (λ v. true) ≡ true
    at None h = h
    at (Some v) h = refl
