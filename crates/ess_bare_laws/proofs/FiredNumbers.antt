-- What a rule makes of a bare tree spells no other numbers; and a part that spells no others leaves those of the whole.
use Rattle.std.proofs.Common.{◌≡◌, refl, subst, ℕ, zero, suc, Bool, true, false, ◌&&◌, if◌then◌else◌, List, [], ◌∷◌, ◌++◌, map, ℤ, pos, Option, Some, None}
use Rattle.std.specs.List.{list_all}
use Rattle.ess_semantics.specs.declared.words.Op2.{Op2}
use Rattle.ess_semantics.specs.declared.words.Fun.{Fun}
use Rattle.ess_semantics.specs.Lists.{append_all}
use Rattle.ess_semantics.specs.Values.{Text}
use Rattle.ess_semantics.specs.Names.{Names}
use Rattle.ess_semantics.specs.Refined.{is_refined, are_refined_gens}
use Rattle.ess_semantics.specs.Occurrences.{parts_of, parts_of_all, parts_of_gens, parts_of_dom, parts_of_doms}
use Rattle.ess_semantics.specs.Constants.{numbers_of_part}
use Rattle.ess_semantics.specs.Trees.{Ex, number_ex, comp_ex, ex2, fun1, Gens, no_gens, over, from, cond}
use Rattle.ess_semantics.specs.Contexts.{In, hole, in_operand, in_item, in_index_domain, in_body, in_generators, in_cell_index, in_view_domain, in_view_index, Ins, in_first, in_later, InGens, in_generator_domain, behind_over, in_source, behind_from, in_condition, behind_condition, InDom, in_bound, in_component, in_field, in_index, in_element, in_set_number, in_set_member, in_mset_number, in_mset_member, in_function_number, in_argument, in_result, in_relation_number, in_relation_component, in_partition_number, in_partition_member, InDoms, in_first_domain, in_later_domain, fill, fill_exs, fill_gens, fill_dom, fill_doms}
use Rattle.ess_rules_laws.specs.ChoiceRules.{choice_shorter}
use Rattle.ess_rules_laws.specs.FoldRules.{fold_alone, fold_bare}
use Rattle.ess_rules_laws.specs.SourceRules.{is_marked}
use Rattle.ess_rules_laws.specs.SpliceRules.{append_gens}
use Rattle.ess_refine_laws.specs.LeavingConditions.{Parted, at_last_condition, under_condition, condition_leaves}
use Rattle.ess_refine_laws.specs.SpellingEnds.{numbers_of_tree}
use Rattle.ess_refine_laws.proofs.LeavingConditions.{MakesUp, made-up}
use Rattle.ess_refine_laws.proofs.ConstantsStay.{All, all-left, all-right, all-both}
use Rattle.ess_flat_laws.specs.Flat.{denied, both}
use Rattle.ess_bare_laws.specs.Bare.{before, Bare, truth, named, cell, one, two, folded, ordered}
use Rattle.ess_bare_laws.specs.Fires.{Fires, without_generators, over_one_condition, as_a_condition_leaves, as_one_choice}

module _ (q : ℤ → Bool) where
  -- q has the numbers of these parts.
  abbrev S : List Ex → Type 0
  S ps = All q (append_all (map numbers_of_part ps))

  left : (ps rs : List Ex) → S (ps ++ rs) → S ps
  left [] rs h = refl
  left (p ∷ ps) rs h = all-both q (numbers_of_part p) (append_all (map numbers_of_part ps))
      (all-left q (numbers_of_part p) (append_all (map numbers_of_part (ps ++ rs))) h)
      (left ps rs (all-right q (numbers_of_part p) (append_all (map numbers_of_part (ps ++ rs))) h))

  right : (ps rs : List Ex) → S (ps ++ rs) → S rs
  right [] rs h = h
  right (p ∷ ps) rs h = right ps rs (all-right q (numbers_of_part p) (append_all (map numbers_of_part (ps ++ rs))) h)

  join : (ps rs : List Ex) → S ps → S rs → S (ps ++ rs)
  join [] rs h k = k
  join (p ∷ ps) rs h k = all-both q (numbers_of_part p) (append_all (map numbers_of_part (ps ++ rs)))
      (all-left q (numbers_of_part p) (append_all (map numbers_of_part ps)) h)
      (join ps rs (all-right q (numbers_of_part p) (append_all (map numbers_of_part ps)) h) k)

  -- One of two lists of parts in the place of another.
  first-for : (ps qs rs : List Ex) → (S ps → S qs) → S (ps ++ rs) → S (qs ++ rs)
  first-for ps qs rs f h = join qs rs (f (left ps rs h)) (right ps rs h)

  second-for : (ps rs qs : List Ex) → (S rs → S qs) → S (ps ++ rs) → S (ps ++ qs)
  second-for ps rs qs f h = join ps qs (left ps rs h) (f (right ps rs h))

  -- ---- at a part

  module _ (a b : Ex) (f : S (parts_of a) → S (parts_of b)) where
    mutual
      at-part : (c : In) → S (parts_of (fill c a)) → S (parts_of (fill c b))
      at-part hole h = f h
      at-part (in_operand m op c) h = at-exs c h
      at-part (in_item c d) h = first-for (parts_of_all (fill_exs c a)) (parts_of_all (fill_exs c b)) (parts_of_dom d) (at-exs c) h
      at-part (in_index_domain es c) h =
          second-for (parts_of_all es) (parts_of_dom (fill_dom c a)) (parts_of_dom (fill_dom c b)) (at-dom c) h
      at-part (in_body c gs) h = first-for (parts_of (fill c a)) (parts_of (fill c b)) (parts_of_gens gs) (at-part c) h
      at-part (in_generators x c) h = second-for (parts_of x) (parts_of_gens (fill_gens c a)) (parts_of_gens (fill_gens c b)) (at-gens c) h
      at-part (in_cell_index m n c) h = at-exs c h
      at-part (in_view_domain r c ns es) h =
          first-for (parts_of_dom (fill_dom c a)) (parts_of_dom (fill_dom c b)) (parts_of_all es) (at-dom c) h
      at-part (in_view_index r d ns c) h =
          second-for (parts_of_dom d) (parts_of_all (fill_exs c a)) (parts_of_all (fill_exs c b)) (at-exs c) h

      at-exs : (c : Ins) → S (parts_of_all (fill_exs c a)) → S (parts_of_all (fill_exs c b))
      at-exs (in_first c es) h = first-for (parts_of (fill c a)) (parts_of (fill c b)) (parts_of_all es) (at-part c) h
      at-exs (in_later x c) h = second-for (parts_of x) (parts_of_all (fill_exs c a)) (parts_of_all (fill_exs c b)) (at-exs c) h

      at-gens : (c : InGens) → S (parts_of_gens (fill_gens c a)) → S (parts_of_gens (fill_gens c b))
      at-gens (in_generator_domain p c gs) h =
          first-for (parts_of_dom (fill_dom c a)) (parts_of_dom (fill_dom c b)) (parts_of_gens gs) (at-dom c) h
      at-gens (behind_over p d c) h =
          second-for (parts_of_dom d) (parts_of_gens (fill_gens c a)) (parts_of_gens (fill_gens c b)) (at-gens c) h
      at-gens (in_source p c gs) h = first-for (parts_of (fill c a)) (parts_of (fill c b)) (parts_of_gens gs) (at-part c) h
      at-gens (behind_from p x c) h =
          second-for (parts_of x) (parts_of_gens (fill_gens c a)) (parts_of_gens (fill_gens c b)) (at-gens c) h
      at-gens (in_condition c gs) h = first-for (parts_of (fill c a)) (parts_of (fill c b)) (parts_of_gens gs) (at-part c) h
      at-gens (behind_condition x c) h =
          second-for (parts_of x) (parts_of_gens (fill_gens c a)) (parts_of_gens (fill_gens c b)) (at-gens c) h

      at-dom : (c : InDom) → S (parts_of_dom (fill_dom c a)) → S (parts_of_dom (fill_dom c b))
      at-dom (in_bound rs c) h = at-exs c h
      at-dom (in_component c) h = at-doms c h
      at-dom (in_field fs c) h = at-doms c h
      at-dom (in_index c d) h = first-for (parts_of_doms (fill_doms c a)) (parts_of_doms (fill_doms c b)) (parts_of_dom d) (at-doms c) h
      at-dom (in_element is c) h = second-for (parts_of_doms is) (parts_of_dom (fill_dom c a)) (parts_of_dom (fill_dom c b)) (at-dom c) h
      at-dom (in_set_number ms c d) h =
          first-for (parts_of_all (fill_exs c a)) (parts_of_all (fill_exs c b)) (parts_of_dom d) (at-exs c) h
      at-dom (in_set_member ms es c) h =
          second-for (parts_of_all es) (parts_of_dom (fill_dom c a)) (parts_of_dom (fill_dom c b)) (at-dom c) h
      at-dom (in_mset_number ms c d) h =
          first-for (parts_of_all (fill_exs c a)) (parts_of_all (fill_exs c b)) (parts_of_dom d) (at-exs c) h
      at-dom (in_mset_member ms es c) h =
          second-for (parts_of_all es) (parts_of_dom (fill_dom c a)) (parts_of_dom (fill_dom c b)) (at-dom c) h
      at-dom (in_function_number ms c d x) h =
          first-for (parts_of_all (fill_exs c a) ++ parts_of_dom d) (parts_of_all (fill_exs c b) ++ parts_of_dom d) (parts_of_dom x)
          (first-for (parts_of_all (fill_exs c a)) (parts_of_all (fill_exs c b)) (parts_of_dom d) (at-exs c)) h
      at-dom (in_argument ms es c x) h =
          first-for (parts_of_all es ++ parts_of_dom (fill_dom c a)) (parts_of_all es ++ parts_of_dom (fill_dom c b)) (parts_of_dom x)
          (second-for (parts_of_all es) (parts_of_dom (fill_dom c a)) (parts_of_dom (fill_dom c b)) (at-dom c)) h
      at-dom (in_result ms es d c) h =
          second-for (parts_of_all es ++ parts_of_dom d) (parts_of_dom (fill_dom c a)) (parts_of_dom (fill_dom c b)) (at-dom c) h
      at-dom (in_relation_number ms c ds) h =
          first-for (parts_of_all (fill_exs c a)) (parts_of_all (fill_exs c b)) (parts_of_doms ds) (at-exs c) h
      at-dom (in_relation_component ms es c) h =
          second-for (parts_of_all es) (parts_of_doms (fill_doms c a)) (parts_of_doms (fill_doms c b)) (at-doms c) h
      at-dom (in_partition_number ms c d) h =
          first-for (parts_of_all (fill_exs c a)) (parts_of_all (fill_exs c b)) (parts_of_dom d) (at-exs c) h
      at-dom (in_partition_member ms es c) h =
          second-for (parts_of_all es) (parts_of_dom (fill_dom c a)) (parts_of_dom (fill_dom c b)) (at-dom c) h

      at-doms : (c : InDoms) → S (parts_of_doms (fill_doms c a)) → S (parts_of_doms (fill_doms c b))
      at-doms (in_first_domain c ds) h =
          first-for (parts_of_dom (fill_dom c a)) (parts_of_dom (fill_dom c b)) (parts_of_doms ds) (at-dom c) h
      at-doms (in_later_domain d c) h =
          second-for (parts_of_dom d) (parts_of_doms (fill_doms c a)) (parts_of_doms (fill_doms c b)) (at-doms c) h

  -- ---- at the root

  -- The numbers of generators in two parts.
  first-gens : (gs hs : Gens) → S (parts_of_gens (append_gens gs hs)) → S (parts_of_gens gs) × S (parts_of_gens hs)
  first-gens no_gens hs h = (refl, h)
  first-gens (over p d gs) hs h =
      let k = first-gens gs hs (right (parts_of_dom d) (parts_of_gens (append_gens gs hs)) h) in
      (join (parts_of_dom d) (parts_of_gens gs) (left (parts_of_dom d) (parts_of_gens (append_gens gs hs)) h) k.0, k.1)
  first-gens (from p x gs) hs h =
      let k = first-gens gs hs (right (parts_of x) (parts_of_gens (append_gens gs hs)) h) in
      (join (parts_of x) (parts_of_gens gs) (left (parts_of x) (parts_of_gens (append_gens gs hs)) h) k.0, k.1)
  first-gens (cond x gs) hs h =
      let k = first-gens gs hs (right (parts_of x) (parts_of_gens (append_gens gs hs)) h) in
      (join (parts_of x) (parts_of_gens gs) (left (parts_of x) (parts_of_gens (append_gens gs hs)) h) k.0, k.1)

  -- What is made spells such numbers.
  abbrev Spelled : Option Ex → Type 0
  Spelled None = Unit {0}
  Spelled (Some f) = S (parts_of f)

  -- The numbers of a word's comprehension are those of its item and of its generators.
  item-and-gens : (m : Bool) (w : Fun) (e : Ex) (gs : Gens) → S (parts_of (fun1 m w (comp_ex e gs))) →
      S (parts_of e) × S (parts_of_gens gs)
  item-and-gens m w e gs h =
      let k = left (parts_of e ++ parts_of_gens gs) [] h in
      (left (parts_of e) (parts_of_gens gs) k, right (parts_of e) (parts_of_gens gs) k)

  word-of : (m : Bool) (w : Fun) (e : Ex) (gs : Gens) → S (parts_of e) → S (parts_of_gens gs) → S (parts_of (fun1 m w (comp_ex e gs)))
  word-of m w e gs h k = join (parts_of e ++ parts_of_gens gs) [] (join (parts_of e) (parts_of_gens gs) h k) refl

  two-of : (x y : Ex) → S (parts_of x) → S (parts_of y) → S (parts_of x ++ (parts_of y ++ []))
  two-of x y h k = join (parts_of x) (parts_of y ++ []) h (join (parts_of y) [] k refl)

  without : (e : Ex) → S (parts_of e) → Spelled (fold_bare e)
  without (fun1 true Fun.And (comp_ex e no_gens)) h = (item-and-gens true Fun.And e no_gens h).0
  without (fun1 true Fun.Or (comp_ex e no_gens)) h = (item-and-gens true Fun.Or e no_gens h).0
  without (fun1 false Fun.Sum (comp_ex e no_gens)) h = (item-and-gens false Fun.Sum e no_gens h).0
  without (fun1 false Fun.Product (comp_ex e no_gens)) h = (item-and-gens false Fun.Product e no_gens h).0
  without _ h = tt

  alone : (e : Ex) → S (parts_of e) → Spelled (fold_alone e)
  alone (fun1 true Fun.And (comp_ex e (cond c no_gens))) h =
      let k = item-and-gens true Fun.And e (cond c no_gens) h in two-of c e (left (parts_of c) [] k.1) k.0
  alone (fun1 true Fun.Or (comp_ex e (cond c no_gens))) h =
      let k = item-and-gens true Fun.Or e (cond c no_gens) h in two-of c e (left (parts_of c) [] k.1) k.0
  alone _ h = tt

  shorter : (e : Ex) → S (parts_of e) → Spelled (choice_shorter e)
  shorter (ex2 false Op2.Times (fun1 false Fun.ToInt c) (fun1 false Fun.ToInt d)) h =
      let x = parts_of (fun1 false Fun.ToInt d) in
      let i = left (parts_of c) [] (left (parts_of c ++ []) (x ++ []) h) in
      let j = left (parts_of d) [] (left x [] (right (parts_of c ++ []) (x ++ []) h)) in
      join (parts_of c ++ (parts_of d ++ [])) [] (two-of c d i j) refl
  shorter (ex2 false Op2.Times (fun1 false Fun.ToInt c) (number_ex (pos (suc zero)))) h =
      left (parts_of c ++ []) (number_ex (pos (suc zero)) ∷ []) h
  shorter _ h = tt

  either-way : (b : Bool) (f : Ex) → S (parts_of f) → Spelled (if b then Some f else None)
  either-way true f h = h
  either-way false f h = tt

  leaves-fold : (w : Fun) (e : Ex) (gs : Gens) → S (parts_of e) → S (parts_of_gens gs) → (p : Option Parted) → MakesUp p gs →
      Spelled (elim p [
        | None ↦ None
        | Some t ↦ if is_marked true w && (is_refined t.condition && (is_refined e && are_refined_gens t.after))
            then Some (fun1 true w (comp_ex (under_condition w t.condition (fun1 true w (comp_ex e t.after))) t.before)) else None
      ])
  leaves-fold w e gs h k None m = tt
  leaves-fold Fun.And e gs h k (Some t) m =
      let s = first-gens t.before (cond t.condition t.after) (subst (λ x. S (parts_of_gens x)) m k) in
      either-way (is_refined t.condition && (is_refined e && are_refined_gens t.after))
      (fun1 true Fun.And (comp_ex (under_condition Fun.And t.condition (fun1 true Fun.And (comp_ex e t.after))) t.before))
      (word-of true Fun.And (under_condition Fun.And t.condition (fun1 true Fun.And (comp_ex e t.after))) t.before
      (two-of t.condition (fun1 true Fun.And (comp_ex e t.after)) (left (parts_of t.condition) (parts_of_gens t.after) s.1)
      (word-of true Fun.And e t.after h (right (parts_of t.condition) (parts_of_gens t.after) s.1))) s.0)
  leaves-fold Fun.Or e gs h k (Some t) m =
      let s = first-gens t.before (cond t.condition t.after) (subst (λ x. S (parts_of_gens x)) m k) in
      either-way (is_refined t.condition && (is_refined e && are_refined_gens t.after))
      (fun1 true Fun.Or (comp_ex (under_condition Fun.Or t.condition (fun1 true Fun.Or (comp_ex e t.after))) t.before))
      (word-of true Fun.Or (under_condition Fun.Or t.condition (fun1 true Fun.Or (comp_ex e t.after))) t.before
      (two-of t.condition (fun1 true Fun.Or (comp_ex e t.after)) (left (parts_of t.condition) (parts_of_gens t.after) s.1)
      (word-of true Fun.Or e t.after h (right (parts_of t.condition) (parts_of_gens t.after) s.1))) s.0)
  leaves-fold w e gs h k (Some t) m = tt

  leaves : {cells : Text → Option (Bool × ℕ)} {r : Names Bool} {e : Ex} → Bare cells r e true → S (parts_of e) →
      Spelled (condition_leaves e)
  leaves truth h = tt
  leaves (named p) h = tt
  leaves (cell p i) h = tt
  leaves (one denied f) h = tt
  leaves (two both f k) h = tt
  leaves (folded {f = w} {e = e} {gs = gs} v k f) h =
      let s = item-and-gens true w e gs h in leaves-fold w e gs s.0 s.1 (at_last_condition gs) (made-up gs)
  leaves (ordered before f k) h = tt
  leaves f h = tt

-- No other numbers are spelled.
pub fired-spells : (cells : Text → Option (Bool × ℕ)) (r : Names Bool) (e f : Ex) (m : Bool) → Bare cells r e m → Fires e f m →
    (q : ℤ → Bool) → list_all q (numbers_of_tree e) ≡ true → list_all q (numbers_of_tree f) ≡ true
fired-spells cells r e f m b (without_generators p) q h = subst (λ x. Spelled q x) p (without q e h)
fired-spells cells r e f m b (over_one_condition p) q h = subst (λ x. Spelled q x) p (alone q e h)
fired-spells cells r e f m b (as_a_condition_leaves p) q h = subst (λ x. Spelled q x) p (leaves q b h)
fired-spells cells r e f m b (as_one_choice p) q h = subst (λ x. Spelled q x) p (shorter q e h)

-- A part that spells no others leaves those of the whole.
pub part-spells : (q : ℤ → Bool) (c : In) (a b : Ex) → (list_all q (numbers_of_tree a) ≡ true → list_all q (numbers_of_tree b) ≡ true) →
    list_all q (numbers_of_tree (fill c a)) ≡ true → list_all q (numbers_of_tree (fill c b)) ≡ true
part-spells q c a b f h = at-part q a b f c h
