-- Folds over literals keep what they rewrite.
use Rattle.std.proofs.Common.{◌≡◌, refl, sym, ap, ◌∙◌, subst, Bool, true, false, List, [], ◌∷◌, Option, Some, None, option_map}
use Rattle.std.specs.Prelude.{IsTrue, is_some}
use Rattle.std.specs.List.{list_all}
use Rattle.ess_semantics.specs.declared.words.Fun.{Fun}
use Rattle.ess_semantics.specs.Lists.{and_then, all_some, list_or_none}
use Rattle.ess_semantics.specs.Values.{Text, Value, items_of}
use Rattle.ess_semantics.specs.Collections.{count, sorted, mset_of}
use Rattle.ess_semantics.specs.Names.{Names}
use Rattle.ess_semantics.specs.Trees.{Op, matrix_literal, mset_literal, name_pat, Ex, Exs, node_ex, comp_ex, fun1, no_exs, more_exs, Gens, from}
use Rattle.ess_semantics.specs.Operators.{list_value, value_of_op, value_of_node}
use Rattle.ess_semantics.specs.Tables.{Table}
use Rattle.ess_semantics.specs.Meaning.{Env, TypeEntry, meaning, meanings, items_under, collect}
use Rattle.ess_semantics.specs.Contexts.{Each, EachIn}
use Rattle.ess_semantics.specs.Meets.{Meets, MeetsAll, MeetsGens}
use Rattle.ess_semantics.specs.Kept.{Keeps}
use Rattle.ess_semantics.specs.Substitution.{substitute_gens, for_name, NamesAre, NamesAreExs, NamesAreGens}
use Rattle.ess_semantics.proofs.Orders.{to_list-of_list}
use Rattle.ess_semantics.proofs.Tests.{and-left}
use Rattle.ess_semantics.proofs.Multisets.{count-sorted}
use Rattle.ess_rules_laws.specs.Rules.{OperandsThere}
use Rattle.ess_rules_laws.specs.SourceRules.{is_marked, list_of, each_fold, fold_items, ItemsApart}
use Rattle.ess_rules_laws.proofs.Simulation.{Vals, E, any}
use Rattle.ess_rules_laws.proofs.Agreement.{outside, meaning-put, items-put, put-value}
use Rattle.ess_rules_laws.proofs.MeetsSimulation.{meets-put-gens}
use Rattle.ess_rules_laws.proofs.Permutations.{Perm, perm-of, collect-perm}
use Rattle.ess_rules_laws.proofs.Listing.{each-perm}
use Rattle.ess_rules_laws.proofs.RuleAnswers.{AnswerKeeps, fires, when-so}
use Rattle.ess_rules_laws.proofs.MembershipRules.{values, all-there}
use Rattle.ess_rules_laws.proofs.Folds.{perm-counts, folded, folded-perm, fold-means, folded-append, literal-means}
use Rattle.ess_rules_laws.proofs.SourceRules.{alike-there, both-lists, list-there, source-there}

-- All options that have their values are there.
somes-there : (os : List (Option Value)) (xs : List Value) → all_some os ≡ Some xs → list_all is_some os ≡ true
somes-there [] xs q = refl
somes-there (None ∷ os) xs q = cc
somes-there (Some v ∷ os) xs q = more (all_some os) refl q (λ ys r. somes-there os ys r)
  where
    more : (o : Option (List Value)) → all_some os ≡ o → option_map (λ xs. v ∷ xs) o ≡ Some xs → ((ys : List Value) → all_some os ≡ Some ys → list_all is_some os ≡ true) → list_all is_some os ≡ true
    more None r q f = cc
    more (Some ys) r q f = f ys r

-- The items of a literal that is there are there.
items-there : (op : Op) (os : List (Option Value)) → is_some (and_then (all_some os) (value_of_op op)) ≡ true → list_all is_some os ≡ true
items-there op os t = go (all_some os) refl t
  where
    go : (o : Option (List Value)) → all_some os ≡ o → is_some (and_then o (value_of_op op)) ≡ true → list_all is_some os ≡ true
    go None r t = cc
    go (Some xs) r t = somes-there os xs r

module _ (pl : Bool) (ts : List TypeEntry) (cs : Names Table) (s : Text → Bool) (y : Text) (named : IsTrue (s y)) (m : Bool) (f : Fun) (marked : is_marked m f ≡ true) (e : Ex) (hs : Gens) (g : Vals)
    (gens : NamesAreGens any (outside s) hs) (body : NamesAre any (outside s) e) where
  abbrev M : Vals → Env
  M h = E pl ts cs h

  abbrev F : Value → Option (List Value)
  F u = items_under hs (M ((y, u) ∷ g)) (λ here. option_map (λ w. w ∷ []) (meaning e here))

  abbrev Behind : Value → Type 0
  Behind u = MeetsGens hs (M ((y, u) ∷ g)) (λ here. Meets e here)

  -- The folds for the items make the fold of all items.
  each-means : (es : Exs) → NamesAreExs s any es → list_all is_some (meanings es (M g)) ≡ true → (ws : List Value) → collect (values (meanings es (M g))) F ≡ Some ws →
      (xs : List Value) × (all_some (meanings (each_fold m f y e hs es) (M g)) ≡ Some xs) × (folded f ws ≡ folded f xs)
  each-means no_exs o t ws q = ([], refl, ap (folded f) (sym (ap list_or_none q)))
  each-means (more_exs a es) o t ws q = go (meaning a (M g)) refl t q (λ z xs r. each-means es o.1 z xs r)
    where
      new_hs : Gens
      new_hs = substitute_gens (for_name y a) hs

      go : (z : Option Value) → meaning a (M g) ≡ z → list_all is_some (z ∷ meanings es (M g)) ≡ true → collect (values (z ∷ meanings es (M g))) F ≡ Some ws →
          (list_all is_some (meanings es (M g)) ≡ true → (vs : List Value) → collect (values (meanings es (M g))) F ≡ Some vs →
          (xs : List Value) × (all_some (meanings (each_fold m f y e hs es) (M g)) ≡ Some xs) × (folded f vs ≡ folded f xs)) →
          (xs : List Value) × (all_some (meanings (each_fold m f y e hs (more_exs a es)) (M g)) ≡ Some xs) × (folded f ws ≡ folded f xs)
      go None k t q r = cc
      go (Some v) k t q r =
          let b = both-lists (F v) (collect (values (meanings es (M g))) F) ws q in let n = r t b.1 b.3 in (
            folded f b.0 ∷ n.0,
            ap (λ z. and_then z (λ x. option_map (λ xs. x ∷ xs) (all_some (meanings (each_fold m f y e hs es) (M g)))))
                (fold-means m f marked _ b.0 (items-put pl ts cs s y a named o.0 hs ((y, v) ∷ g) g _ _ gens (put-value pl ts cs s y a named o.0 v g k)
                (λ g' h' p. ap (option_map (λ w. w ∷ [])) (meaning-put pl ts cs s y a named o.0 e g' h' body p)) ∙ b.2))
                ∙ ap (option_map (λ xs. folded f b.0 ∷ xs)) n.1,
            ap (folded f) (sym b.4) ∙ folded-append m f marked b.0 b.1 n.0 n.2,
          )

  -- And structures stay met.
  each-met : (es : Exs) → NamesAreExs s any es → list_all is_some (meanings es (M g)) ≡ true → Each (values (meanings es (M g))) Behind → MeetsAll false es (M g) → MeetsAll false (each_fold m f y e hs es) (M g)
  each-met no_exs o t a k = tt
  each-met (more_exs x es) o t a k = go (meaning x (M g)) refl t a (λ z b. each-met es o.1 z b k.1)
    where
      go : (z : Option Value) → meaning x (M g) ≡ z → list_all is_some (z ∷ meanings es (M g)) ≡ true → Each (values (z ∷ meanings es (M g))) Behind →
          (list_all is_some (meanings es (M g)) ≡ true → Each (values (meanings es (M g))) Behind → MeetsAll false (each_fold m f y e hs es) (M g)) → MeetsAll false (each_fold m f y e hs (more_exs x es)) (M g)
      go None q t a r = cc
      go (Some v) q t a r = ((meets-put-gens pl ts cs s y x named o.0 hs e ((y, v) ∷ g) g gens body (put-value pl ts cs s y x named o.0 v g q, k.0) a.0, tt), r t a.1)

  module _ (op : Op) (es : Exs) (o : NamesAreExs s any es) (perm : (vs : List Value) → (w : Value) × (value_of_op op vs ≡ Some w) × Perm (items_of w) vs)
      (plain : (os : List (Option Value)) → value_of_node op os ≡ and_then (all_some os) (value_of_op op)) where
    abbrev source : Ex
    source = node_ex false op es

    abbrev old_items : Option (List Value)
    old_items = and_then (meaning source (M g)) (λ w. collect (items_of w) F)

    is-there : is_some (option_map list_value old_items) ≡ true → list_all is_some (meanings es (M g)) ≡ true
    is-there t = items-there op (meanings es (M g)) (subst (λ z. is_some z ≡ true) (plain (meanings es (M g))) (source-there (meaning source (M g)) F t))

    source-is : list_all is_some (meanings es (M g)) ≡ true → meaning source (M g) ≡ value_of_op op (values (meanings es (M g)))
    source-is t = plain (meanings es (M g)) ∙ ap (λ z. and_then z (value_of_op op)) (all-there (meanings es (M g)) t)

    items-mean : is_some (option_map list_value old_items) ≡ true → meaning (fun1 m f (comp_ex e (from (name_pat y) source hs))) (M g) ≡ meaning (fun1 m f (list_of (each_fold m f y e hs es))) (M g)
    items-mean t =
        let u = list-there old_items t in let h = is-there t in let w = perm (values (meanings es (M g))) in
        let r = alike-there (collect (items_of w.0) F) (collect (values (meanings es (M g))) F) u.0 (sym (ap (λ z. and_then z (λ w. collect (items_of w) F)) (source-is h ∙ w.1)) ∙ u.1) (collect-perm F w.2) in
        let n = each-means es o h r.0 r.1 in
        fold-means m f marked old_items u.0 u.1 ∙ ap Some (folded-perm m f marked r.2 ∙ n.2) ∙ sym (literal-means m f marked (each_fold m f y e hs es) (M g) n.0 n.1)

    items-met : is_some (option_map list_value old_items) ≡ true → EachIn (meaning source (M g)) Behind → MeetsAll false es (M g) → MeetsAll false (each_fold m f y e hs es) (M g)
    items-met t a k = let h = is-there t in let w = perm (values (meanings es (M g))) in
        each-met es o h (each-perm Behind w.2 (subst (λ z. EachIn z Behind) (source-is h ∙ w.1) a)) k

items-answer : (s : Text → Bool) (e : Ex) → ItemsApart s e → (env : Env) → OperandsThere e env → AnswerKeeps (fold_items e) e env
items-answer s (fun1 m f (comp_ex e (from (name_pat y) (node_ex false matrix_literal es) hs))) n env t = when-so (is_marked m f) _ (fun1 m f (comp_ex e (from (name_pat y) (node_ex false matrix_literal es) hs))) env
    (λ q k. let perm : (vs : List Value) → (w : Value) × (value_of_op matrix_literal vs ≡ Some w) × Perm (items_of w) vs = λ vs. (list_value vs, refl, perm-of (to_list-of_list vs)) in (
      items-mean env.positions env.types env.cells s y n.0 m f q e hs env.vals n.2 n.3 matrix_literal es n.1 perm (λ os. refl) (and-left _ _ t),
      ((items-met env.positions env.types env.cells s y n.0 m f q e hs env.vals n.2 n.3 matrix_literal es n.1 perm (λ os. refl) (and-left _ _ t) k.0.1 k.0.0), tt),
    ))
items-answer s (fun1 m f (comp_ex e (from (name_pat y) (node_ex false mset_literal es) hs))) n env t = when-so (is_marked m f) _ (fun1 m f (comp_ex e (from (name_pat y) (node_ex false mset_literal es) hs))) env
    (λ q k. let perm : (vs : List Value) → (w : Value) × (value_of_op mset_literal vs ≡ Some w) × Perm (items_of w) vs = λ vs. (mset_of vs, refl, perm-counts (items_of (mset_of vs)) vs (λ u. ap (λ l. count l u) (to_list-of_list (sorted vs)) ∙ count-sorted vs u)) in (
      items-mean env.positions env.types env.cells s y n.0 m f q e hs env.vals n.2 n.3 mset_literal es n.1 perm (λ os. refl) (and-left _ _ t),
      ((items-met env.positions env.types env.cells s y n.0 m f q e hs env.vals n.2 n.3 mset_literal es n.1 perm (λ os. refl) (and-left _ _ t) k.0.1 k.0.0), tt),
    ))
items-answer s _ n env t = tt

-- Folds over literals.
pub fold_items-keeps : (s : Text → Bool) (e f : Ex) → fold_items e ≡ Some f → ItemsApart s e → (env : Env) → OperandsThere e env → Keeps e f env
fold_items-keeps s e f q n env t = fires (fold_items e) e f env (items-answer s e n env t) q
