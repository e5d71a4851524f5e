-- Bounds of terms, from bounds of their parts.
use Rattle.std.proofs.Common.{◌≡◌, refl, sym, ap, ◌∙◌, subst, ℕ, ◌+◌, ◌≤◌, Bool, true, false, ◌&&◌, List, [], ◌∷◌, length, pos, Option, Some, None, option_map, arith}
use Rattle.std.specs.Prelude.{◌+ℤ◌, nat_le}
use Rattle.std.specs.List.{list_all}
use Rattle.std.proofs.lemmas.Int.{ints}
use Rattle.std.proofs.lemmas.Bool.{le-leb}
use Rattle.ess_semantics.specs.declared.words.Fun.{Fun}
use Rattle.ess_semantics.specs.Lists.{and_then, all_some, or_default, zip}
use Rattle.ess_semantics.specs.Values.{Text, Value, number, tuple, of_list, items_of}
use Rattle.ess_semantics.specs.Names.{Names, by_name}
use Rattle.ess_semantics.specs.Constants.{operand_count}
use Rattle.ess_semantics.specs.Occurrences.{parts_of, parts_of_all, parts_of_gens, parts_of_dom}
use Rattle.ess_semantics.specs.Trees.{Step, Repr, word, to_field, index, application, tuple_literal, matrix_literal, function_literal, record_literal, Ex, Exs, number_ex, node_ex, matrix_ex, comp_ex, seen_ex, no_exs, more_exs, Gens, Dom}
use Rattle.ess_semantics.specs.Representations.{value_of_tables}
use Rattle.ess_semantics.specs.Operators.{misfit, number_in, sum_of, component, at_field, record_value, value_of_op, value_of_node}
use Rattle.ess_semantics.specs.Collections.{function_of}
use Rattle.ess_semantics.specs.Meaning.{Env, meaning, meanings, domain_of, members_in, items_under, tables_in, indices}
use Rattle.ess_semantics.specs.Meets.{MeetsAll}
use Rattle.ess_semantics.proofs.Tests.{and-both}
use Rattle.ess_guard_laws.specs.IndexDomains.{first_index}
use Rattle.ess_rules_laws.specs.FieldLiterals.{field_term}
use Rattle.ess_rules_laws.proofs.FieldLiterals.{field_listed-keeps}
use Rattle.ess_numbered_laws.specs.MostItems.{Pick, an_item, a_result, a_component, a_field, pick_of, dom_along, all_summed, members_counted}
use Rattle.ess_numbered_laws.specs.BoundLaws.{reach_at_most}
use Rattle.ess_numbered_laws.proofs.MostNumbers.{IsNatural, AreNatural, values-natural, sum-natural}
use Rattle.ess_numbered_laws.proofs.ReachedValues.{all-weaker, reach-more, reach-marked, reach-index, reach-application, reach-image, reach-function}
use Rattle.ess_numbered_laws.proofs.BoundedSums.{so_many, so-many-adds, each_reach, each-reach-adds}
use Rattle.ess_numbered_laws.proofs.BoundedGenerators.{each-left, each-right, then-there, Here, Good, AllGood, Bounds, OneItem, AtItem, Behind}
use Rattle.ess_numbered_laws.proofs.FollowedDomains.{reach-along}
use Rattle.ess_numbered_laws.proofs.OperandsThere.{operands-there, first-there, as-many, all-are, list-there, matrix-there, comp-there, summands-there, counted-there, view-domain}

module _ (base : Env) where
  -- ---- several terms

  -- What is said of several terms: the sum bounds what steps reach from each.
  abbrev pub EachBound : List Pick → Exs → Exs → Type 0
  EachBound ps es ns = AllGood base (parts_of_all es) → (g : Names Value) → MeetsAll false es (Here base g) →
      (ws : List Value) → all_some (meanings ns (Here base g)) ≡ Some ws → (k : ℕ) → sum_of ws ≡ pos k →
      (xs : List Value) → all_some (meanings es (Here base g)) ≡ Some xs → list_all (reach_at_most ps k) xs ≡ true

  -- Of the one at a place.
  abbrev pub PlaceBound : ℕ → List Pick → Exs → Ex → Type 0
  PlaceBound i ps es n = AllGood base (parts_of_all es) → (g : Names Value) → MeetsAll false es (Here base g) →
      (k : ℕ) → meaning n (Here base g) ≡ Some (number (pos k)) →
      (xs : List Value) → all_some (meanings es (Here base g)) ≡ Some xs → reach_at_most ps k (or_default (component (of_list xs) i) misfit)
      ≡ true

  -- Of the one at a field.
  abbrev pub FieldBound : Text → List Text → List Pick → Exs → Ex → Type 0
  FieldBound a fs ps es n = AllGood base (parts_of_all es) → (g : Names Value) → MeetsAll false es (Here base g) →
      (k : ℕ) → meaning n (Here base g) ≡ Some (number (pos k)) →
      (e : Ex) × (field_term fs es a ≡ Some e) × ((w : Value) → meaning e (Here base g) ≡ Some w → reach_at_most ps k w ≡ true)

  -- Of no terms.
  pub no-more : (ps : List Pick) → EachBound ps no_exs no_exs
  no-more ps good g met ws q k s xs e = ap (list_all (reach_at_most ps k)) (sym (let z : [] ≡ xs = cc in z))

  -- Of one term more.
  pub one-more : (ps : List Pick) (e n : Ex) (es ns : Exs) → IsNatural n → AreNatural ns → Bounds base ps e n → EachBound ps es ns →
      EachBound ps (more_exs e es) (more_exs n ns)
  one-more ps e n es ns nat nats b h good g met ws q k s xs t =
      let env = Here base g in
      let r = first-there (meaning n env) (all_some (meanings ns env)) ws q in
      let x = first-there (meaning e env) (all_some (meanings es env)) xs t in
      let m = nat env r.0 r.2 in
      let l = sum-natural r.1 (values-natural ns env nats r.1 r.3) in
      let y : pos m.0 +ℤ pos l.0 ≡ pos k = sym (ap (λ a. number_in a +ℤ sum_of r.1) m.1 ∙ ap (λ a. pos m.0 +ℤ a) l.1) ∙ ap sum_of r.4 ∙ s in
      let z : m.0 + l.0 ≡ k = omega (arith, ints) in
      subst (λ us. list_all (reach_at_most ps k) us ≡ true) x.4
      (and-both (reach_at_most ps k x.0) (list_all (reach_at_most ps k) x.1)
      (reach-more ps m.0 k (omega arith) x.0
      (b (each-left (Good base) (parts_of e) (parts_of_all es) good) g met.0 m.0 (r.2 ∙ ap Some m.1) x.0 x.2))
      (all-weaker (reach_at_most ps l.0) (reach_at_most ps k) x.1 (λ u. reach-more ps l.0 k (omega arith) u)
      (h (each-right (Good base) (parts_of e) (parts_of_all es) good) g met.1 r.1 r.3 l.0 l.1 x.1 x.3)))

  -- ---- nodes

  -- What an index picks.
  pub of-index : (b : Bool) (q : Step) (t : Ex) (is : Exs) (ps : List Pick) (n : Ex) → Bounds base (pick_of q ∷ ps) t n →
      Bounds base ps (node_ex b (index (q ∷ [])) (more_exs t is)) n
  of-index b q t is ps n h good g met k e v j = reach-marked ps k b _ v j (λ w i.
      let r = operands-there (meaning t (Here base g)) (meanings is (Here base g)) (value_of_op (index (q ∷ []))) w i in
      reach-index q ps k r.0 r.1 w (h (each-left (Good base) (parts_of t) (parts_of_all is) good.1) g met.0 k e r.0 r.2) r.3)

  -- What an application picks.
  pub of-application : (b : Bool) (t : Ex) (is : Exs) (ps : List Pick) (n : Ex) → Bounds base (a_result ∷ ps) t n →
      Bounds base ps (node_ex b application (more_exs t is)) n
  of-application b t is ps n h good g met k e v j = reach-marked ps k b _ v j (λ w i.
      let r = operands-there (meaning t (Here base g)) (meanings is (Here base g)) (value_of_op application) w i in
      reach-application ps k r.0 r.1 w (h (each-left (Good base) (parts_of t) (parts_of_all is) good.1) g met.0 k e r.0 r.2) r.3)

  -- What `image` picks.
  pub of-image : (b : Bool) (t : Ex) (is : Exs) (ps : List Pick) (n : Ex) → Bounds base (a_result ∷ ps) t n →
      Bounds base ps (node_ex b (word Fun.Image) (more_exs t is)) n
  of-image b t is ps n h good g met k e v j = reach-marked ps k b _ v j (λ w i.
      let r = operands-there (meaning t (Here base g)) (meanings is (Here base g)) (value_of_op (word Fun.Image)) w i in
      reach-image ps k r.0 r.1 w (h (each-left (Good base) (parts_of t) (parts_of_all is) good.1) g met.0 k e r.0 r.2) r.3)

  -- ---- literals

  so-many-there : (c k : ℕ) (v : Value) (xs : List Value) → Some (number (pos c)) ≡ Some (number (pos k)) → items_of v ≡ xs → length xs
      ≡ c →
      reach_at_most [] k v ≡ true
  so-many-there c k v xs e i l = let z : c ≡ k = cc in let y = ap length i in le-leb (length (items_of v)) k (omega arith)

  -- A written list.
  pub of-literal : (es : Exs) → Bounds base [] (node_ex false matrix_literal es) (number_ex (pos (operand_count es)))
  of-literal es good g met k e v j = let r = list-there (all_some (meanings es (Here base g))) v j in
      so-many-there (operand_count es) k v r.0 e r.2 (as-many es (Here base g) r.0 r.1)

  -- A matrix with an index domain.
  pub of-matrix : (es : Exs) (d : Dom) → Bounds base [] (matrix_ex es d) (number_ex (pos (operand_count es)))
  of-matrix es d good g met k e v j =
      let r = matrix-there (all_some (meanings es (Here base g))) (members_in (domain_of d (Here base g))) v j in
      so-many-there (operand_count es) k v r.0 e r.2 (as-many es (Here base g) r.0 r.1)

  -- The items of a written list.
  pub of-literal-items : (es ns : Exs) (ps : List Pick) → EachBound ps es ns →
      Bounds base (an_item ∷ ps) (node_ex false matrix_literal es) (all_summed ns)
  of-literal-items es ns ps h good g met k e v j =
      let r = list-there (all_some (meanings es (Here base g))) v j in
      let s = summands-there ns (Here base g) k e in
      ap (list_all (reach_at_most ps k)) r.2 ∙ h good.1 g met s.0 s.1 k s.2 r.0 r.1

  -- The items of a matrix with an index domain.
  pub of-matrix-items : (es ns : Exs) (d : Dom) (ps : List Pick) → EachBound ps es ns →
      Bounds base (an_item ∷ ps) (matrix_ex es d) (all_summed ns)
  of-matrix-items es ns d ps h good g met k e v j =
      let r = matrix-there (all_some (meanings es (Here base g))) (members_in (domain_of d (Here base g))) v j in
      let s = summands-there ns (Here base g) k e in
      ap (list_all (reach_at_most ps k)) r.2
      ∙ h (each-left (Good base) (parts_of_all es) (parts_of_dom d) good.1) g met.0 s.0 s.1 k s.2 r.0 r.1

  -- A component of a written tuple.
  pub of-tuple : (i : ℕ) (ps : List Pick) (es : Exs) (n : Ex) → PlaceBound i ps es n →
      Bounds base (a_component i ∷ ps) (node_ex false tuple_literal es) n
  of-tuple i ps es n h good g met k e v j =
      let r = then-there (all_some (meanings es (Here base g))) (λ xs. Some (tuple (of_list xs))) v j in
      subst (λ w. reach_at_most (a_component i ∷ ps) k w ≡ true) (let z : tuple (of_list r.0) ≡ v = cc in z) (h good.1 g met k e r.0 r.1)

  -- A field of a written record.
  pub of-record : (a : Text) (fs : List Text) (ps : List Pick) (es : Exs) (n : Ex) → FieldBound a fs ps es n →
      Bounds base (a_field a ∷ ps) (node_ex false (record_literal fs) es) n
  of-record a fs ps es n h good g met k e v j =
      let r = then-there (all_some (meanings es (Here base g))) (λ xs. Some (record_value (by_name (zip fs xs)))) v j in
      let f = h good.1 g met k e in
      let y = field_listed-keeps (node_ex false (index (to_field a ∷ [])) (more_exs (node_ex false (record_literal fs) es) no_exs)) f.0 f.1
      (Here base g)
      (all-are es (Here base g) r.0 r.1, tt) (met, tt) in
      f.2 (at_field v a) (sym y.0 ∙ ap (λ o. value_of_node (index (to_field a ∷ [])) (o ∷ [])) j)

  -- The results of a written function.
  pub of-function : (ps : List Pick) (es ns : Exs) → EachBound (a_component 2 ∷ ps) es ns →
      Bounds base (a_result ∷ ps) (node_ex false function_literal es) (all_summed ns)
  of-function ps es ns h good g met k e v j =
      let r = then-there (all_some (meanings es (Here base g))) function_of v j in
      let s = summands-there ns (Here base g) k e in
      reach-function ps k r.0 v (good.0 g r.0 r.1) (h good.1 g met s.0 s.1 k s.2 r.0 r.1) r.2

  -- ---- comprehensions and views

  one-counted : (e : Ex) → AtItem base e (number_ex (pos 1)) so_many
  one-counted e g met k q ys i = go (meaning e (Here base g)) i
    where
      go : (o : Option Value) → option_map (λ v. v ∷ []) o ≡ Some ys → so_many k ys ≡ true
      go None i = cc
      go (Some w) i = let z : 1 ≡ k = cc in ap (so_many k) (sym (let y : w ∷ [] ≡ ys = cc in y)) ∙ le-leb 1 k (omega arith)

  one-reached : (ps : List Pick) (e m : Ex) → AllGood base (parts_of e) → Bounds base ps e m → AtItem base e m (each_reach ps)
  one-reached ps e m good h g met k q ys i = go (meaning e (Here base g)) refl i
    where
      go : (o : Option Value) → meaning e (Here base g) ≡ o → option_map (λ v. v ∷ []) o ≡ Some ys → each_reach ps k ys ≡ true
      go None j i = cc
      go (Some w) j i = ap (each_reach ps k) (sym (let y : w ∷ [] ≡ ys = cc in y)) ∙ ap (λ b. b && true) (h good g met k q w j)

  -- A comprehension.
  pub of-comp : (e : Ex) (gs : Gens) (n : Ex) → Behind base e gs (number_ex (pos 1)) n → Bounds base [] (comp_ex e gs) n
  of-comp e gs n h good g met k q v j = let r = comp-there (items_under gs (Here base g) (OneItem base e)) v j in
      ap (λ l. nat_le (length l) k) r.2
      ∙ h so_many so-many-adds (one-counted e) (each-right (Good base) (parts_of e) (parts_of_gens gs) good.1) g met k q r.0 r.1

  -- The items of a comprehension.
  pub of-comp-items : (ps : List Pick) (e : Ex) (gs : Gens) (m n : Ex) → Bounds base ps e m → Behind base e gs m n →
      Bounds base (an_item ∷ ps) (comp_ex e gs) n
  of-comp-items ps e gs m n b h good g met k q v j = let r = comp-there (items_under gs (Here base g) (OneItem base e)) v j in
      ap (list_all (reach_at_most ps k)) r.2
      ∙ h (each_reach ps) (each-reach-adds ps) (one-reached ps e m (each-left (Good base) (parts_of e) (parts_of_gens gs) good.1) b)
      (each-right (Good base) (parts_of e) (parts_of_gens gs) good.1) g met k q r.0 r.1

  -- What steps reach from a view.
  pub of-view : (z : Text) (ps : List Pick) (r : Repr) (d : Dom) (ns : List Text) (es : Exs) (i : Dom) → first_index (dom_along ps (Some d))
      ≡ Some i →
      Bounds base ps (seen_ex r d ns es) (members_counted z i)
  of-view z ps r d ns es i e good g met k q v j =
      let c = view-domain d (Here base g) (λ c. and_then (tables_in (Here base g).cells ns)
      (λ ts. and_then (indices (meanings es (Here base g)))
      (λ is. value_of_tables r c ts is))) v j in
      let s = counted-there z i (Here base g) k q in
      reach-along (Here base g) ps (Some d) v (c.0, c.1, good.0 g met v c.0 j c.1) i e s.0 s.1 k
      (let l : length s.0 ≤ k = omega (arith, s.2) in l)
