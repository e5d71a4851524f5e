-- What the forms of terms tell of their values, under what is known of names.
use Rattle.std.proofs.Common.{◌≡◌, refl, sym, ap, ◌∙◌, subst, Bool, true, false, ◌||◌, if◌then◌else◌, List, [], ◌∷◌, ◌++◌, map, Option}
use Rattle.std.proofs.Common.{Some, None, option_map}
use Rattle.ess_semantics.specs.declared.words.Op2.{Op2}
use Rattle.ess_semantics.specs.declared.words.Fun.{Fun}
use Rattle.ess_semantics.specs.Lists.{and_then, all_some}
use Rattle.ess_semantics.specs.Values.{Text, Value, number, truth, item, node}
use Rattle.ess_semantics.specs.Order.{same_text}
use Rattle.ess_semantics.specs.Names.{Names, look}
use Rattle.ess_semantics.specs.Collections.{holds}
use Rattle.ess_semantics.specs.Trees.{binary, word, matrix_literal, Ex, Exs, number_ex, truth_ex, name_ex, node_ex, matrix_ex, comp_ex, cell_ex, seen_ex}
use Rattle.ess_semantics.specs.Trees.{no_exs, more_exs, Gens, cond, bool_dom, ex2, fun1}
use Rattle.ess_semantics.specs.Operators.{as_truth, value_of_node, false_where_undefined}
use Rattle.ess_semantics.specs.Domains.{booleans}
use Rattle.ess_semantics.specs.Tables.{Table, code}
use Rattle.ess_semantics.specs.Meaning.{Env, TypeEntry, meaning, meanings, indices, items_under, where_true, members_in}
use Rattle.ess_semantics.proofs.Orders.{same-itself}
use Rattle.ess_semantics.proofs.Tests.{and-left, and-right}
use Rattle.ess_rules_laws.proofs.Simulation.{Vals, E}
use Rattle.ess_rules_laws.proofs.Agreement.{same_text-equal}
use Rattle.ess_guard_laws.specs.Origins.{Origin, runs_over, anywhere, runs_over_numbers, comes_from}
use Rattle.ess_guard_laws.specs.Conditions.{unless}
use Rattle.ess_guard_laws.proofs.KnownNames as K
use Rattle.ess_keys_laws.specs.KeyForms.{is_truth, as_index, as_indices, is_scalar, same_key, is_settled}
use Rattle.ess_keys_laws.specs.Keyed.{conjuncts, all_conjuncts, conditions_before}
use Rattle.ess_keys_laws.proofs.Conjunctions.{All, all-more}

bool-value : (is : List Value) (v : Value) → members_in (Some booleans) ≡ Some is → holds is v ≡ true
    → Some v ≡ Some (truth (as_truth (Some v)))
bool-value is (truth b) q h = refl
bool-value is (number n) q h = let r : holds is (number n) ≡ false =
    ap (λ o. elim o [ None ↦ false | Some l ↦ holds l (number n) ]) (sym q) in cc
bool-value is (item t k) q h = let r : holds is (item t k) ≡ false =
    ap (λ o. elim o [ None ↦ false | Some l ↦ holds l (item t k) ]) (sym q) in cc
bool-value is (node k xs) q h = let r : holds is (node k xs) ≡ false =
    ap (λ o. elim o [ None ↦ false | Some l ↦ holds l (node k xs) ]) (sym q) in cc

-- ---- indices

codes-more : (o o' : Option Value) (p q : Option (List Value)) → option_map code o ≡ option_map code o'
    → option_map (map code) p ≡ option_map (map code) q
    → option_map (map code) (and_then o (λ x. option_map (λ xs. x ∷ xs) p))
    ≡ option_map (map code) (and_then o' (λ x. option_map (λ xs. x ∷ xs) q))
codes-more None None p q e h = refl
codes-more None (Some y) p q e h = cc
codes-more (Some x) None p q e h = cc
codes-more (Some x) (Some y) None None e h = refl
codes-more (Some x) (Some y) None (Some ys) e h = cc
codes-more (Some x) (Some y) (Some xs) None e h = cc
codes-more (Some x) (Some y) (Some xs) (Some ys) e h =
    ap (λ i. Some (i ∷ map code xs)) (ap (λ o. elim o [ None ↦ code x | Some i ↦ i ]) e)
    ∙ ap (λ is. Some (code y ∷ is)) (ap (λ o. elim o [ None ↦ map code xs | Some is ↦ is ]) h)

-- ---- conditions

both-hold : {A : Type 0} (o p : Option Value) (x : Option (List A))
    → where_true (false_where_undefined true (value_of_node (binary Op2.And) (o ∷ p ∷ []))) (λ u. x)
    ≡ where_true o (λ u. where_true p (λ u. x))
both-hold (Some (truth true)) (Some (truth true)) x = refl
both-hold (Some (truth true)) (Some (truth false)) x = refl
both-hold (Some (truth true)) (Some (number n)) x = refl
both-hold (Some (truth true)) (Some (item t k)) x = refl
both-hold (Some (truth true)) (Some (node k xs)) x = refl
both-hold (Some (truth true)) None x = refl
both-hold (Some (truth false)) p x = refl
both-hold (Some (number n)) p x = refl
both-hold (Some (item t k)) p x = refl
both-hold (Some (node k xs)) p x = refl
both-hold None p x = refl

-- Conditions before others before generators.
pub before-append : (ds bs : List Ex) (gs : Gens) → conditions_before (ds ++ bs) gs ≡ conditions_before ds (conditions_before bs gs)
before-append [] bs gs = refl
before-append (d ∷ ds) bs gs = ap (cond d) (before-append ds bs gs)

module _ (pl : Bool) (ts : List TypeEntry) (cs : Names Table) where
  abbrev M : Vals → Env
  M g = E pl ts cs g

  abbrev Known : Names Origin → Vals → Type 0
  Known k g = K.Known pl ts cs k g

  -- A term that is a truth value by its form is there.
  pub truth-there : (k : Names Origin) (e : Ex) (g : Vals) → Known k g → is_truth k e ≡ true
      → meaning e (M g) ≡ Some (truth (as_truth (meaning e (M g))))
  truth-there k (truth_ex b) g h t = refl
  truth-there k (node_ex true op es) g h t = refl
  truth-there k (cell_ex true n es) g h t = refl
  truth-there k (name_ex a) g h t = go (look k a) refl t
    where
      go : (o : Option Origin) → look k a ≡ o → comes_from o bool_dom ≡ true → look g a ≡ Some (truth (as_truth (look g a)))
      go (Some (runs_over d)) q t =
          let r = h a d q in
          let m = K.within-lies pl ts cs d bool_dom g r.0 t r.2 in
          subst (λ o. o ≡ Some (truth (as_truth o))) (sym r.1) (bool-value m.0 r.0 m.1 m.2)
      go o q t = cc
  truth-there k e g h t = cc

  index-chosen : (k : Names Origin) (e : Ex) (g : Vals) → Known k g → (b : Bool) → is_truth k e ≡ b
      → option_map code (meaning (if b then fun1 false Fun.ToInt e else e) (M g)) ≡ option_map code (meaning e (M g))
  index-chosen k e g h false q = refl
  index-chosen k e g h true q =
      subst (λ o. option_map code (value_of_node (word Fun.ToInt) (o ∷ [])) ≡ option_map code o) (sym (truth-there k e g h q))
      (as-number (as_truth (meaning e (M g))))
    where
      as-number : (b : Bool) → option_map code (value_of_node (word Fun.ToInt) (Some (truth b) ∷ [])) ≡ option_map code (Some (truth b))
      as-number true = refl
      as-number false = refl

  index-means : (k : Names Origin) (e : Ex) (g : Vals) → Known k g
      → option_map code (meaning (as_index k e) (M g)) ≡ option_map code (meaning e (M g))
  index-means k (truth_ex true) g h = refl
  index-means k (truth_ex false) g h = refl
  index-means k (number_ex n) g h = index-chosen k (number_ex n) g h (is_truth k (number_ex n)) refl
  index-means k (name_ex a) g h = index-chosen k (name_ex a) g h (is_truth k (name_ex a)) refl
  index-means k (node_ex b op es) g h = index-chosen k (node_ex b op es) g h b refl
  index-means k (matrix_ex es d) g h = refl
  index-means k (comp_ex e gs) g h = refl
  index-means k (cell_ex b n es) g h = index-chosen k (cell_ex b n es) g h b refl
  index-means k (seen_ex r d ns es) g h = refl

  -- Indices as numbers are the same indices.
  pub indices-mean : (k : Names Origin) (es : Exs) (g : Vals) → Known k g
      → indices (meanings (as_indices k es) (M g)) ≡ indices (meanings es (M g))
  indices-mean k no_exs g h = refl
  indices-mean k (more_exs e es) g h =
      codes-more (meaning (as_index k e) (M g)) (meaning e (M g)) (all_some (meanings (as_indices k es) (M g))) (all_some (meanings es
      (M g)))
      (index-means k e g h) (indices-mean k es g h)

  -- ---- conditions

  name-equals : (k : Names Origin) (a b : Text) (g : Vals) → Known k g → same_text a b ≡ true → is_scalar k (name_ex a) ≡ true
      → meaning (ex2 true Op2.Eq (name_ex a) (name_ex b)) (M g) ≡ Some (truth true)
  name-equals k a b g h s t = go (look k a) refl t
    where
      go : (o : Option Origin) → look k a ≡ o → runs_over_numbers o || comes_from o bool_dom ≡ true
          → meaning (ex2 true Op2.Eq (name_ex a) (name_ex b)) (M g) ≡ Some (truth true)
      go (Some (runs_over d)) q t =
          let r = h a d q in
          let p : look g b ≡ Some r.0 = subst (λ z. look g z ≡ Some r.0) (same_text-equal a b s) r.1 in
          ap (λ o. false_where_undefined true (value_of_node (binary Op2.Eq) (o ∷ look g b ∷ []))) r.1
          ∙ ap (λ o. false_where_undefined true (value_of_node (binary Op2.Eq) (Some r.0 ∷ o ∷ []))) p
          ∙ ap (λ b. Some (truth b)) (same-itself r.0)
      go (Some anywhere) q t = cc
      go None q t = cc

  -- A condition that holds by its form does.
  pub settled-holds : (k : Names Origin) (c : Ex) (g : Vals) → Known k g → is_settled k c ≡ true → meaning c (M g) ≡ Some (truth true)
  settled-holds k (truth_ex b) g h t = ap (λ b. Some (truth b)) t
  settled-holds k (ex2 true Op2.Eq a b) g h t = equal a b t
    where
      equal : (a b : Ex) → same_key k a b ≡ true → meaning (ex2 true Op2.Eq a b) (M g) ≡ Some (truth true)
      equal (number_ex n) (number_ex m) t = ap (λ b. Some (truth b)) t
      equal (name_ex a) (name_ex b) t =
          name-equals k a b g h (and-left (same_text a b) (is_scalar k (name_ex a)) t) (and-right (same_text a b) (is_scalar k
          (name_ex a)) t)
      equal a b t = cc
  settled-holds k c g h t = cc

  -- Conditions that hold by their form may be left out.
  unless-means : (k : Names Origin) (c : Ex) (gs : Gens) (g : Vals) (K : Env → Option (List Value)) → Known k g → (b : Bool)
      → is_settled k c ≡ b
      → items_under (conditions_before (unless b c) gs) (M g) K ≡ where_true (meaning c (M g)) (λ u. items_under gs (M g) K)
  unless-means k c gs g K h false q = refl
  unless-means k c gs g K h true q = ap (λ o. where_true o (λ u. items_under gs (M g) K)) (sym (settled-holds k c g h q))

  mutual
    -- A condition and its conjuncts hold at once.
    pub conjuncts-mean : (k : Names Origin) (c : Ex) (gs : Gens) (g : Vals) (K : Env → Option (List Value)) → Known k g
        → items_under (conditions_before (conjuncts k c) gs) (M g) K ≡ where_true (meaning c (M g)) (λ u. items_under gs (M g) K)
    conjuncts-mean k (ex2 true Op2.And a b) gs g K h =
        ap (λ hs. items_under hs (M g) K) (before-append (conjuncts k a) (conjuncts k b) gs)
        ∙ conjuncts-mean k a (conditions_before (conjuncts k b) gs) g K h
        ∙ ap (λ o. where_true (meaning a (M g)) (λ u. o)) (conjuncts-mean k b gs g K h)
        ∙ sym (both-hold (meaning a (M g)) (meaning b (M g)) (items_under gs (M g) K))
    conjuncts-mean k (fun1 true Fun.And (node_ex false matrix_literal es)) gs g K h = all_conjuncts-mean k es gs g K h
    conjuncts-mean k c gs g K h = unless-means k c gs g K h (is_settled k c) refl

    -- So do several and theirs.
    all_conjuncts-mean : (k : Names Origin) (es : Exs) (gs : Gens) (g : Vals) (K : Env → Option (List Value)) → Known k g
        → items_under (conditions_before (all_conjuncts k es) gs) (M g) K
        ≡ where_true (All (meanings es (M g))) (λ u. items_under gs (M g) K)
    all_conjuncts-mean k no_exs gs g K h = refl
    all_conjuncts-mean k (more_exs e es) gs g K h =
        ap (λ hs. items_under hs (M g) K) (before-append (conjuncts k e) (all_conjuncts k es) gs)
        ∙ conjuncts-mean k e (conditions_before (all_conjuncts k es) gs) g K h
        ∙ ap (λ o. where_true (meaning e (M g)) (λ u. o)) (all_conjuncts-mean k es gs g K h)
        ∙ sym (both-hold (meaning e (M g)) (All (meanings es (M g))) (items_under gs (M g) K))
        ∙ ap (λ o. where_true o (λ u. items_under gs (M g) K))
        (sym (all-more (meaning e (M g)) (All (meanings es (M g))) (meanings es (M g)) refl))
