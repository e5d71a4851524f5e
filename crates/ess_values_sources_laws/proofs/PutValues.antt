-- The alternatives of a source in the place of the generator over it have values, where those of the source's members have.
use Rattle.std.proofs.Common.{◌≡◌, refl, sym, ap, ◌∙◌, subst, Bool, true, false, ◌&&◌, List, [], ◌∷◌, map, Option, Some, None, option_map}
use Rattle.std.specs.Prelude.{IsTrue, is_some}
use Rattle.ess_semantics.specs.declared.words.Fun.{Fun}
use Rattle.ess_semantics.specs.Lists.{and_then}
use Rattle.ess_semantics.specs.Values.{Text, Value, items_of}
use Rattle.ess_semantics.specs.Trees.{name_pat, Ex, comp_ex, fun1, Gens, from}
use Rattle.ess_semantics.specs.Operators.{list_value}
use Rattle.ess_semantics.specs.Meaning.{Env, meaning, items_under, collect}
use Rattle.ess_semantics.specs.Contexts.{Each, EachIn}
use Rattle.ess_semantics.specs.Substitution.{substitute, substitute_gens, for_name}
use Rattle.ess_semantics.proofs.Orders.{to_list-of_list}
use Rattle.ess_guard_laws.specs.Supplied.{Unless}
use Rattle.ess_rules_laws.specs.Listings.{Alternative, items_listed, all_listed, SameLists}
use Rattle.ess_rules_laws.specs.SourceRules.{is_marked, list_of}
use Rattle.ess_rules_laws.specs.SpliceRules.{append_gens}
use Rattle.ess_rules_laws.specs.ListedSources.{Offers, put_listed, each_put, PutApart, EachApart}
use Rattle.ess_rules_laws.proofs.Permutations.{Perm}
use Rattle.ess_rules_laws.proofs.Listing.{each-perm}
use Rattle.ess_rules_laws.proofs.RuleAnswers.{behind}
use Rattle.ess_rules_laws.proofs.SpliceRules.{each-left, each-right, spliced-items}
use Rattle.ess_rules_laws.proofs.SourceRules.{both-lists}
use Rattle.ess_refine_laws.specs.ExtremeAlternatives.{put_alternative}
use Rattle.ess_values_along_laws.specs.Valued.{Valued, AllValued, UnderValued}
use Rattle.ess_values_terms_laws.proofs.ValuedForms.{and-no, there, word-valued}
use Rattle.ess_values_terms_laws.proofs.ValuedLists.{list-valued}
use Rattle.ess_values_sources_laws.specs.ListedValues.{Under, AllUnder}
use Rattle.ess_values_sources_laws.proofs.LeastValues.{AllLaid}
use Rattle.ess_values_sources_laws.proofs.CollectedLists.{there-is, listed-there, each-some, some-each, some-list, list-some, each-both, left-of-both, right-of-both}
use Rattle.ess_values_sources_laws.proofs.SplicedValues.{AllOf, spliced-valued}

module _ (y : Text) (e : Ex) (hs : Gens) (env : Env) where
  -- The items behind a value of y.
  abbrev pub F : Value → Option (List Value)
  F u = items_under hs (behind y u env) (λ here. option_map (λ w. w ∷ []) (meaning e here))

  -- What has values there.
  abbrev pub Behind : Value → Type 0
  Behind u = UnderValued hs (behind y u env) (λ here. Valued false e here)

  -- Both.
  abbrev pub Good : Value → Type 0
  Good u = IsTrue (is_some (F u)) × Behind u

  -- The items with an alternative.
  abbrev put_items : Alternative → Option (List Value)
  put_items a = items_under (append_gens a.gens (substitute_gens (for_name y a.item) hs)) env
      (λ here. option_map (λ v. v ∷ []) (meaning (substitute (for_name y a.item) e) here))

  module _ (r s : Text → Bool) where
    there-so : (o : Option (List Value)) (ws : List Value) → o ≡ Some ws → IsTrue (is_some (option_map list_value o))
    there-so None ws q = cc
    there-so (Some us) ws q = refl

    some-so : (o : Option (List Value)) (ws : List Value) → o ≡ Some ws → IsTrue (is_some o)
    some-so None ws q = cc
    some-so (Some us) ws q = refl

    -- They are those behind each item of the alternative.
    put-items : (a : Alternative) → PutApart r s y e hs a → (ws : List Value) → items_listed a env ≡ Some ws → put_items a ≡ collect ws F
    put-items a n ws q =
        sym (spliced-items env.positions env.types env.cells r s y a.item n.0 n.1 a.gens hs e env.vals n.2 n.3 n.4
        (there-so (items_listed a env) ws q))
        ∙ ap (λ o. and_then (option_map list_value o) (λ w. collect (items_of w) F)) q ∙ ap (λ l. collect l F) (to_list-of_list ws)

    -- A comprehension with an alternative has values.
    pub put-valued : (w : Bool) (a : Alternative) → PutApart r s y e hs a → (ws : List Value) → items_listed a env ≡ Some ws →
        Each ws Good → Under a env → Valued w (put_listed y e hs a) env
    put-valued w a n ws q b u = (
      some-list (put_items a) (subst (λ z. IsTrue (is_some z)) (sym (put-items a n ws q)) (some-each ws F (left-of-both ws _ _ b))),
      spliced-valued env.positions env.types env.cells r s y a.item n.0 n.1 a.gens hs e env.vals n.2 n.3 n.4
          (some-so (items_listed a env) ws q) (subst (λ o. AllOf Behind o) (sym q) (right-of-both ws _ _ b)) u,
    )

    -- A fold of what has values.
    pub fold-valued : (m w : Bool) (f : Fun) (l : Ex) → is_marked m f ≡ true → Valued false l env → Valued w (fun1 m f l) env
    fold-valued true w f l k h = (tt, (h, tt))
    fold-valued false w Fun.Sum l k h = word-valued w Fun.Sum l env (λ v. refl) h
    fold-valued false w Fun.Product l k h = word-valued w Fun.Product l env (λ v. refl) h
    fold-valued false w _ l k h = cc

    -- The folds over the alternatives have values.
    pub each-put-valued : (m : Bool) (f : Fun) → is_marked m f ≡ true → (l : List Alternative) → EachApart r s y e hs l →
        (ws : List Value) → all_listed l env ≡ Some ws → Each ws Good → AllUnder l env → AllValued false false (each_put m f y e hs l) env
    each-put-valued m f k [] n ws p b u = tt
    each-put-valued m f k (a ∷ l) n ws p b u =
        let d = both-lists (items_listed a env) (all_listed l env) ws p in
        let c = subst (λ z. Each z Good) (sym d.4) b in (
          fold-valued m false f (put_listed y e hs a) k (put-valued false a n.0 d.0 d.2 (each-left Good d.0 d.1 c) u.0),
          each-put-valued m f k l n.1 d.1 d.3 (each-right Good d.0 d.1 c) u.1,
        )

  -- ---- of a source

  -- What the word stands on has values in no natural place.
  pub inner : (m w : Bool) (f : Fun) (l : Ex) → Valued w (fun1 m f l) env → Valued false l env
  inner true w f l h = h.1.0
  inner false w f l h = subst (λ z. Valued z l env) (and-no w) h.1.0

  module _ (t : Ex) (h : Valued false (comp_ex e (from (name_pat y) t hs)) env) where
    -- At each item of the source.
    pub good-items : (w : Value) → meaning t env ≡ Some w → Each (items_of w) Good
    good-items w j = each-both (items_of w) _ _
        (each-some (items_of w) F (subst (λ o. IsTrue (is_some (and_then o (λ u. collect (items_of u) F)))) j (list-some _ h.0)))
        (subst (λ o. EachIn o Behind) j h.1.1)

    -- The items of what it offers.
    pub offered-items : (l : List Alternative) → Offers t l env → (w : Value) → meaning t env ≡ Some w →
        (ws : List Value) × (all_listed l env ≡ Some ws) × Perm (items_of w) ws
    offered-items l o w j = listed-there (all_listed l env) (items_of w)
        (subst (λ z. SameLists (option_map items_of z) (all_listed l env)) j o.lists)

  -- Folds over alternatives.
  pub parts-valued : (r s : Text → Bool) (m w : Bool) (f : Fun) (t : Ex) (l : List Alternative) → is_marked m f ≡ true →
      EachApart r s y e hs l → Valued w (fun1 m f (comp_ex e (from (name_pat y) t hs))) env → Offers t l env → AllUnder l env →
      Valued w (fun1 m f (list_of (each_put m f y e hs l))) env
  parts-valued r s m w f t l k n h o u =
      let c = inner m w f (comp_ex e (from (name_pat y) t hs)) h in
      let v = there-is (meaning t env) (there t env c.1.0) in
      let ws = offered-items t c l o v.0 v.1 in
      fold-valued r s m w f (list_of (each_put m f y e hs l)) k
      (list-valued false (each_put m f y e hs l) env
      (each-put-valued r s m f k l n ws.0 ws.1 (each-perm Good ws.2 (good-items t c v.0 v.1)) u))

  -- Each alternative in the place of the source.
  pub all-put-valued : (r s : Text → Bool) (w : Bool) (f : Fun) (t : Ex) (l : List Alternative) → EachApart r s y e hs l →
      Valued w (fun1 false f (comp_ex e (from (name_pat y) t hs))) env → Offers t l env → AllUnder l env →
      AllLaid env (map (put_alternative y e hs) l)
  all-put-valued r s w f t l n h o u =
      let c = inner false w f (comp_ex e (from (name_pat y) t hs)) h in
      let v = there-is (meaning t env) (there t env c.1.0) in
      let ws = offered-items t c l o v.0 v.1 in go l n ws.0 ws.1 (each-perm Good ws.2 (good-items t c v.0 v.1)) u
    where
      go : (l : List Alternative) → EachApart r s y e hs l → (ws : List Value) → all_listed l env ≡ Some ws → Each ws Good →
          AllUnder l env → AllLaid env (map (put_alternative y e hs) l)
      go [] n ws p b u = tt
      go (a ∷ l) n ws p b u =
          let d = both-lists (items_listed a env) (all_listed l env) ws p in
          let c = subst (λ z. Each z Good) (sym d.4) b in (
            put-valued r s false a n.0 d.0 d.2 (each-left Good d.0 d.1 c) u.0,
            go l n.1 d.1 d.3 (each-right Good d.0 d.1 c) u.1,
          )

  -- A word on the only alternative.
  pub alone-valued : (r s : Text → Bool) (m w : Bool) (f : Fun) (t : Ex) (a : Alternative) → PutApart r s y e hs a →
      Valued w (fun1 m f (comp_ex e (from (name_pat y) t hs))) env → Offers t (a ∷ []) env → Under a env →
      meaning (fun1 m f (comp_ex e (from (name_pat y) t hs))) env ≡ meaning (fun1 m f (put_listed y e hs a)) env →
      Valued w (fun1 m f (put_listed y e hs a)) env
  alone-valued r s m w f t a n h o u q = both m h q
    where
      put : (m : Bool) → Valued w (fun1 m f (comp_ex e (from (name_pat y) t hs))) env → (z : Bool) → Valued z (put_listed y e hs a) env
      put m h z =
          let c = inner m w f (comp_ex e (from (name_pat y) t hs)) h in
          let v = there-is (meaning t env) (there t env c.1.0) in
          let ws = offered-items t c (a ∷ []) o v.0 v.1 in
          let d = both-lists (items_listed a env) (Some []) ws.0 ws.1 in
          put-valued r s z a n d.0 d.2
          (each-left Good d.0 d.1 (subst (λ x. Each x Good) (sym d.4) (each-perm Good ws.2 (good-items t c v.0 v.1)))) u

      both : (m : Bool) → Valued w (fun1 m f (comp_ex e (from (name_pat y) t hs))) env →
          meaning (fun1 m f (comp_ex e (from (name_pat y) t hs))) env ≡ meaning (fun1 m f (put_listed y e hs a)) env →
          Valued w (fun1 m f (put_listed y e hs a)) env
      both true h q = (tt, (put true h false, tt))
      both false h q = (subst (λ z. Unless (w && false) (IsTrue (is_some z))) q h.0, (put false h (w && false), tt))
