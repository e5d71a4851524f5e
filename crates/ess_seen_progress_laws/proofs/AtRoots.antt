-- Where something abstract stands at the root of a tree over views, a rule fires there.
use Rattle.std.proofs.Common.{◌≡◌, refl, ap, ◌∙◌, ℕ, Bool, true, false, ◌&&◌, ◌||◌, if◌then◌else◌, List, [], ◌∷◌, map, Option, Some, None, option_map, is_some}
use Rattle.ess_semantics.specs.declared.words.Op1.{Op1}
use Rattle.ess_semantics.specs.declared.words.Op2.{Op2}
use Rattle.ess_semantics.specs.declared.words.Fun.{Fun}
use Rattle.ess_semantics.specs.Lists.{and_then, or_else}
use Rattle.ess_semantics.specs.Values.{Text, a_set}
use Rattle.ess_semantics.specs.Names.{Names}
use Rattle.ess_semantics.specs.Trees.{word, Mark, Repr, name_pat, Ex, Exs, comp_ex, seen_ex, Gens, no_gens, from, Dom, set_dom, ex1, ex2, fun1}
use Rattle.ess_semantics.specs.Types.{Ty, compound1}
use Rattle.ess_semantics.specs.Typing.{type_of}
use Rattle.ess_rules_laws.specs.InclusionRules.{both_sets, both_msets}
use Rattle.ess_rules_laws.specs.SizeRules.{is_counted}
use Rattle.ess_rules_laws.specs.Progress.{is_parted}
use Rattle.ess_rules_laws.specs.Listings.{Alternative}
use Rattle.ess_rules_laws.specs.ListedSources.{laid_out, source_parts}
use Rattle.ess_semantics.specs.ExpressionJudgements.{forgets_order}
use Rattle.ess_refine_laws.specs.AllRules.{not_equal, turned, strictly, equal_sets, included_sets, in_a_term, size as sized, over_a_source, Supply, rewrite, only_one}
use Rattle.ess_kind_rules_laws.specs.ViewListings.{view_listing}
use Rattle.ess_open_rules_laws.specs.OpenGenerators.{Opened, at_first_open, folds_nested, nested}
use Rattle.ess_open_rules_laws.specs.OpenSources.{picked_members, behind_gens}
use Rattle.ess_open_rules_laws.specs.OpenRules.{over_one_source, fold_of_folds, of_opening}
use Rattle.ess_refine_laws.specs.ExtremeRules.{are_none}
use Rattle.ess_refine_laws.specs.ExtremeAlternatives.{put_alternative}
use Rattle.ess_seen_laws.specs.ess_bare_laws.Lean.{FoldWord, of_all, of_some, of_sum}
use Rattle.ess_seen_laws.specs.Seen.{Kind, kind_ty, Bound, bound_types, Combines, united, shared, lessened, Compares, alike, apart, included, properly_included, including, properly_including, Keeps, as_an_atom, by_occurrence, with_a_dummy, in_slots, with_a_marker, with_flags, SetTerm}
use Rattle.ess_seen_laws.proofs.Types.{set-type}
use Rattle.ess_seen_progress_laws.specs.MovesOn.{MovesOn, plainly, by_kind}

-- What comes where a test holds is there.
there-if : {A : Type 0} (b : Bool) (x : A) → b ≡ true → is_some (if b then Some x else None) ≡ true
there-if b x h = ap (λ c. is_some (if c then Some x else None)) h

-- The types of two sets.
pub sets-both : (k : Kind) (o p : Option Ty) → o ≡ Some (compound1 a_set (kind_ty k)) → p ≡ Some (compound1 a_set (kind_ty k)) →
    both_sets o p ≡ true
sets-both k o p h i = ap (λ t. both_sets t p) h ∙ ap (both_sets (Some (compound1 a_set (kind_ty k)))) i

-- Of a set that is made of two there are alternatives, and a fold over these.
parts-there : {m : Bool} {f : Fun} → FoldWord m f → (a : Text) (e z : Ex) (hs : Gens) (l : List Alternative) →
    is_some (source_parts l (fun1 m f (comp_ex e (from (name_pat a) z hs)))) ≡ true
parts-there of_all a e z hs l = refl
parts-there of_some a e z hs l = refl
parts-there of_sum a e z hs l = refl

listed-there : {m : Bool} {f : Fun} → FoldWord m f → (a : Text) (e z : Ex) (hs : Gens) (c : Bool) (l : List Alternative)
    (q : Option (List Alternative)) → c ≡ true →
    is_some (and_then (or_else (if c then Some l else None) q) (λ l. source_parts l (fun1 m f (comp_ex e (from (name_pat a) z hs))))) ≡ true
listed-there w a e z hs true l q h = parts-there w a e z hs l
listed-there w a e z hs false l q h = cc

made-there : {m : Bool} {f : Fun} {o : Op2} → FoldWord m f → Combines o → (u : Supply) (g : Names Ty) (s t : Ex) (a : Text) (e : Ex)
    (hs : Gens) → both_sets (type_of s g) (type_of t g) ≡ true →
    is_some (rewrite u g over_a_source (fun1 m f (comp_ex e (from (name_pat a) (ex2 false o s t) hs)))) ≡ true
made-there w united u g s t a e hs h = listed-there w a e (ex2 false Op2.Union s t) hs (both_sets (type_of s g) (type_of t g)) _ _ h
made-there w shared u g s t a e hs h = listed-there w a e (ex2 false Op2.Intersect s t) hs (both_sets (type_of s g) (type_of t g)) _ _ h
made-there w lessened u g s t a e hs h = listed-there w a e (ex2 false Op2.Minus s t) hs (both_sets (type_of s g) (type_of t g)) _ _ h

module _ (cells : Text → Option (Bool × List ℕ)) where
  -- The types of two terms that are sets.
  both-typed : {r : Names Bound} {s t : Ex} {k : Kind} → SetTerm cells r s k → SetTerm cells r t k →
      both_sets (type_of s (bound_types r)) (type_of t (bound_types r)) ≡ true
  both-typed {r = r} {s = s} {t = t} {k = k} v w =
      sets-both k (type_of s (bound_types r)) (type_of t (bound_types r)) (set-type cells v) (set-type cells w)

  -- The type of one, of which sizes and comparisons ask.
  set-typed : {r : Names Bound} {s : Ex} {k : Kind} → SetTerm cells r s k → (f : Option Ty → Bool) →
      f (Some (compound1 a_set (kind_ty k))) ≡ true → f (type_of s (bound_types r)) ≡ true
  set-typed v f h = ap f (set-type cells v) ∙ h

  -- A sign between sets.
  pub compared-moves : {r : Names Bound} {o : Op2} {s t : Ex} {k : Kind} → Compares o → SetTerm cells r s k → SetTerm cells r t k →
      MovesOn (bound_types r) (ex2 true o s t)
  compared-moves alike v w = plainly equal_sets refl (λ u. there-if _ _ (both-typed v w))
  compared-moves {r = r} {s = s} {t = t} apart v w = plainly not_equal refl (λ u. there-if _ _
      (ap (λ c. c && is_parted (type_of t (bound_types r))) (set-typed v is_parted refl) ∙ set-typed w is_parted refl))
  compared-moves included v w = plainly included_sets refl (λ u. there-if _ _ (both-typed v w))
  compared-moves {r = r} {s = s} {t = t} properly_included v w = plainly strictly refl (λ u. there-if _ _
      (ap (λ c. c || both_msets (type_of s (bound_types r)) (type_of t (bound_types r))) (both-typed v w)))
  compared-moves including v w = plainly turned refl (λ u. refl)
  compared-moves properly_including v w = plainly turned refl (λ u. refl)

  -- The size of a set, and a membership in one.
  pub sized-moves : {r : Names Bound} {s : Ex} {k : Kind} → SetTerm cells r s k → MovesOn (bound_types r) (ex1 false Op1.Bar s)
  sized-moves v = plainly sized refl (λ u. there-if _ _ (set-typed v is_counted refl))

  pub member-moves : (g : Names Ty) (a s : Ex) → MovesOn g (ex2 true Op2.Member a s)
  member-moves g a s = plainly in_a_term refl (λ u. refl)

  -- ---- folds

  -- What a view of a set offers is one alternative.
  one-told : {ks : List ℕ} {p : Repr} {ms : List Mark} {es : Exs} {d : Dom} {ns : List Text} → Keeps cells ks p (set_dom ms es d) ns →
      (x y : Text) (zs : List Text) (js : Exs) → is_some (view_listing x y zs (seen_ex p (set_dom ms es d) ns js)) ≡ true
  one-told (as_an_atom h c) x y zs js = absurd (no-atom h)
    where
      no-atom : false ≡ true → ⊥
      no-atom h = cc
  one-told (by_occurrence k w h c) x y zs js = refl
  one-told (with_a_dummy w h b e c) x y zs js = refl
  one-told (in_slots w e k) x y zs js = refl
  one-told (with_a_marker w e c k) x y zs js = refl
  one-told (with_flags w e c k) x y zs js = refl

  -- So a fold over it is one over its members.
  pub view-moves : {m : Bool} {f : Fun} {ks : List ℕ} {p : Repr} {ms : List Mark} {es js : Exs} {d : Dom} {ns : List Text} →
      FoldWord m f → Keeps cells ks p (set_dom ms es d) ns → (g : Names Ty) (a : Text) (e : Ex) (hs : Gens) →
      MovesOn g (fun1 m f (comp_ex e (from (name_pat a) (seen_ex p (set_dom ms es d) ns js) hs)))
  view-moves {m = m} {f = f} {p = p} {ms = ms} {es = es} {js = js} {d = d} {ns = ns} w k g a e hs =
      by_kind (of_opening over_one_source) refl (λ u. go w u (view_listing u.one u.other u.parts v) (one-told k u.one u.other u.parts js))
    where
      v : Ex
      v = seen_ex p (set_dom ms es d) ns js

      go : {m : Bool} {f : Fun} → FoldWord m f → (u : Supply) (o : Option Alternative) → is_some o ≡ true →
          is_some (if forgets_order (word f)
          then option_map (λ b. fun1 m f (laid_out b))
          (only_one (option_map (map (λ b. behind_gens no_gens (put_alternative a e hs b)))
          (or_else (option_map (λ b. b ∷ []) o) (picked_members u g v)))) else None) ≡ true
      go w u None h = cc
      go of_all u (Some b) h = refl
      go of_some u (Some b) h = refl
      go of_sum u (Some b) h = refl

  -- A fold over a set that is made of two, by the alternatives of that.
  pub made-moves : {m : Bool} {f : Fun} {r : Names Bound} {o : Op2} {s t : Ex} {k : Kind} → FoldWord m f → Combines o →
      SetTerm cells r s k → SetTerm cells r t k → (a : Text) (e : Ex) (hs : Gens) →
      MovesOn (bound_types r) (fun1 m f (comp_ex e (from (name_pat a) (ex2 false o s t) hs)))
  made-moves {r = r} {s = s} {t = t} w c v x a e hs =
      plainly over_a_source refl (λ u. made-there w c u (bound_types r) s t a e hs (both-typed v x))

  -- A fold behind plain generators, as a fold of folds.
  pub nested-moves : {m : Bool} {f : Fun} → FoldWord m f → (g : Names Ty) (e : Ex) (gs : Gens) (o : Opened) → at_first_open gs ≡ Some o →
      are_none o.before ≡ false → MovesOn g (fun1 m f (comp_ex e gs))
  nested-moves w g e gs o h n = by_kind (of_opening fold_of_folds) refl (λ u. marked w)
    where
      there : (m : Bool) (f : Fun) → is_some (and_then (at_first_open gs) (folds_nested m f e)) ≡ true
      there m f = ap (λ p. is_some (and_then p (folds_nested m f e))) h
          ∙ ap (λ b. is_some (if b then None else Some (fun1 m f (comp_ex (fun1 m f (comp_ex e o.after)) o.before)))) n

      marked : {m : Bool} {f : Fun} → FoldWord m f → is_some (nested (fun1 m f (comp_ex e gs))) ≡ true
      marked of_all = there true Fun.And
      marked of_some = there true Fun.Or
      marked of_sum = there false Fun.Sum
