-- Folds over unions and over literals keep what they rewrite.
use Rattle.std.proofs.Common.{◌≡◌, refl, sym, ap, ◌∙◌, subst, Bool, true, false, ◌&&◌, not, List, [], ◌∷◌, ◌++◌, filter, Option, Some, None, option_map}
use Rattle.std.specs.Prelude.{is_some}
use Rattle.ess_semantics.specs.declared.words.Op1.{Op1}
use Rattle.ess_semantics.specs.declared.words.Op2.{Op2}
use Rattle.ess_semantics.specs.declared.words.Fun.{Fun}
use Rattle.ess_semantics.specs.Lists.{and_then, all_some, list_or_none}
use Rattle.ess_semantics.specs.Values.{Text, Value, truth, items_of}
use Rattle.ess_semantics.specs.Collections.{holds, sorted_once}
use Rattle.ess_semantics.specs.Names.{Names}
use Rattle.ess_semantics.specs.Trees.{binary, name_pat, Ex, name_ex, comp_ex, ex1, ex2, fun1, no_exs, more_exs, Gens, from, cond}
use Rattle.ess_semantics.specs.Typing.{type_of}
use Rattle.ess_semantics.specs.Types.{Ty}
use Rattle.ess_semantics.specs.Typed.{Typed}
use Rattle.ess_semantics.specs.Operators.{as_truth, list_value}
use Rattle.ess_semantics.specs.Meaning.{Env, meaning, items_under, collect, where_true}
use Rattle.ess_semantics.specs.Contexts.{Each, EachOf, EachIn}
use Rattle.ess_semantics.specs.Meets.{Meets, MeetsGens}
use Rattle.ess_semantics.specs.Kept.{Keeps}
use Rattle.ess_semantics.proofs.Tests.{and-left, and-right}
use Rattle.ess_rules_laws.specs.Rules.{Unused, OperandsThere}
use Rattle.ess_rules_laws.specs.InclusionRules.{both_sets}
use Rattle.ess_rules_laws.specs.SourceRules.{is_marked, list_of, fold_union, UnionSound}
use Rattle.ess_rules_laws.proofs.Bindings.{each-map, collect-each}
use Rattle.ess_rules_laws.proofs.Permutations.{Perm, Alike, collect-perm}
use Rattle.ess_rules_laws.proofs.Listing.{each-perm}
use Rattle.ess_rules_laws.proofs.RuleAnswers.{AnswerKeeps, fires, when-so, behind, meets-behind, each-any}
use Rattle.ess_rules_laws.proofs.Connectives.{not-means}
use Rattle.ess_rules_laws.proofs.ContainerValues.{Pair, Strictly, sets-of}
use Rattle.ess_rules_laws.proofs.InclusionRules.{member-body}
use Rattle.ess_rules_laws.proofs.Listings.{union-items, union-counts}
use Rattle.ess_rules_laws.proofs.Splices.{collect-append}
use Rattle.ess_rules_laws.proofs.SpliceRules.{each-left, each-right}
use Rattle.ess_rules_laws.proofs.GeneratorRules.{collect-filter, each-filter, read-items, each-items, operands-there}
use Rattle.ess_rules_laws.proofs.Folds.{perm-counts, folded, folded-perm, fold-means, folded-append, literal-means}

-- ---- lists that are there

-- A list like one that is there.
pub alike-there : (o p : Option (List Value)) (us : List Value) → o ≡ Some us → Alike o p → (ws : List Value) × (p ≡ Some ws) × Perm us ws
alike-there (Some xs) (Some ys) us q a = (ys, refl, subst (λ z. Perm (list_or_none z) ys) q a)
alike-there (Some xs) None us q a = absurd a
alike-there None p us q a = cc

-- Two lists one behind the other.
pub both-lists : (o p : Option (List Value)) (ws : List Value) → and_then o (λ xs. option_map (λ ys. xs ++ ys) p) ≡ Some ws → (us : List Value) × (vs : List Value) × (o ≡ Some us) × (p ≡ Some vs) × (us ++ vs ≡ ws)
both-lists None p ws q = cc
both-lists (Some us) None ws q = cc
both-lists (Some us) (Some vs) ws q = (us, vs, refl, refl, ap list_or_none q)

append-nil : (xs : List Value) → xs ++ [] ≡ xs
append-nil [] = refl
append-nil (x ∷ xs) = ap (λ ys. x ∷ ys) (append-nil xs)

-- The list of a comprehension that is there.
pub list-there : (o : Option (List Value)) → is_some (option_map list_value o) ≡ true → (us : List Value) × (o ≡ Some us)
list-there None t = cc
list-there (Some us) t = (us, refl)

-- The source of a comprehension that is there.
pub source-there : (o : Option Value) (F : Value → Option (List Value)) → is_some (option_map list_value (and_then o (λ w. collect (items_of w) F))) ≡ true → is_some o ≡ true
source-there None F t = cc
source-there (Some w) F t = refl

-- ---- unions

module _ (y : Text) (a b e : Ex) (hs : Gens) (env : Env) (v w : Value) (j : meaning a env ≡ Some v) (l : meaning b env ≡ Some w) (p : Pair Strictly v w) (new-a : Unused y a) where
  abbrev F : Value → Option (List Value)
  F u = items_under hs (behind y u env) (λ here. option_map (λ w. w ∷ []) (meaning e here))

  abbrev union : Ex
  union = ex2 false Op2.Union a b

  abbrev other : Ex
  other = ex1 true Op1.Not (ex2 true Op2.Member (name_ex y) a)

  abbrev rest : List Value
  rest = filter (λ z. not (holds (items_of v) z)) (items_of w)

  abbrev old_items : Option (List Value)
  old_items = and_then (meaning union env) (λ w. collect (items_of w) F)

  abbrev first_items : Option (List Value)
  first_items = and_then (meaning a env) (λ w. collect (items_of w) F)

  abbrev second_items : Option (List Value)
  second_items = and_then (meaning b env) (λ w. collect (items_of w) (λ u. where_true (meaning other (behind y u env)) (λ z. F u)))

  other-says : (u : Value) → meaning other (behind y u env) ≡ Some (truth (not (holds (items_of v) u)))
  other-says u = not-means (behind y u env) (ex2 true Op2.Member (name_ex y) a) (holds (items_of v) u) (member-body y a env v new-a j u)

  union-perm : Perm (sorted_once (items_of v ++ items_of w)) (items_of v ++ rest)
  union-perm = perm-counts _ _ (union-counts a b env v w j l p)

  first-is : first_items ≡ collect (items_of v) F
  first-is = ap (λ o. and_then o (λ w. collect (items_of w) F)) j

  second-is : second_items ≡ collect rest F
  second-is =
      ap (λ o. and_then o (λ w. collect (items_of w) (λ u. where_true (meaning other (behind y u env)) (λ z. F u)))) l
      ∙ collect-each (items_of w) _ _ (each-any (items_of w) _ (λ u. ap (λ o. where_true o (λ z. F u)) (other-says u)))
      ∙ sym (collect-filter (λ z. not (holds (items_of v) z)) (items_of w) F)

  old-is : old_items ≡ collect (sorted_once (items_of v ++ items_of w)) F
  old-is = read-items (meaning union env) F ∙ ap (λ o. and_then o (λ us. collect us F)) (union-items a b env v w j l p)

  parted : (us ws : List Value) → collect (items_of v ++ rest) F ≡ Some ws → Perm us ws → (xs : List Value) × (ys : List Value) × (first_items ≡ Some xs) × (second_items ≡ Some ys) × Perm us (xs ++ ys)
  parted us ws q r = go (both-lists (collect (items_of v) F) (collect rest F) ws (sym (collect-append (items_of v) rest F) ∙ q))
    where
      go : (xs : List Value) × (ys : List Value) × (collect (items_of v) F ≡ Some xs) × (collect rest F ≡ Some ys) × (xs ++ ys ≡ ws) →
          (xs : List Value) × (ys : List Value) × (first_items ≡ Some xs) × (second_items ≡ Some ys) × Perm us (xs ++ ys)
      go s = (s.0, s.1, first-is ∙ s.2, second-is ∙ s.3, subst (λ z. Perm us z) (sym s.4) r)

  -- The items of the union are those of both parts.
  union-split : (us : List Value) → old_items ≡ Some us → (xs : List Value) × (ys : List Value) × (first_items ≡ Some xs) × (second_items ≡ Some ys) × Perm us (xs ++ ys)
  union-split us q = go (alike-there (collect (sorted_once (items_of v ++ items_of w)) F) (collect (items_of v ++ rest) F) us (sym old-is ∙ q) (collect-perm F union-perm))
    where
      go : (ws : List Value) × (collect (items_of v ++ rest) F ≡ Some ws) × Perm us ws → (xs : List Value) × (ys : List Value) × (first_items ≡ Some xs) × (second_items ≡ Some ys) × Perm us (xs ++ ys)
      go r = parted us r.0 r.1 r.2

  abbrev Behind : Value → Type 0
  Behind u = MeetsGens hs (behind y u env) (λ here. Meets e here)

  union-each : EachIn (meaning union env) Behind → Each (items_of v ++ rest) Behind
  union-each m = each-perm Behind union-perm (subst (λ o. EachOf o Behind) (union-items a b env v w j l p) (each-items (meaning union env) Behind m))

  first-met : EachIn (meaning union env) Behind → EachIn (meaning a env) Behind
  first-met m = subst (λ o. EachIn o Behind) (sym j) (each-left Behind (items_of v) rest (union-each m))

  second-met : EachIn (meaning union env) Behind → Meets a env → EachIn (meaning b env) (λ u. Meets other (behind y u env) × (as_truth (meaning other (behind y u env)) ≡ true → Behind u))
  second-met m k = subst (λ o. EachIn o (λ u. Meets other (behind y u env) × (as_truth (meaning other (behind y u env)) ≡ true → Behind u))) (sym l)
      (each-map (items_of w) _ _ (λ u f. (((tt, (meets-behind y u a env new-a k, tt)), tt), λ z. f (sym (ap as_truth (other-says u)) ∙ z)))
      (each-filter (λ z. not (holds (items_of v) z)) (items_of w) Behind (each-right Behind (items_of v) rest (union-each m))))

  -- The two folds make one.
  union-means : (m : Bool) (f : Fun) → is_marked m f ≡ true → is_some (option_map list_value old_items) ≡ true →
      meaning (fun1 m f (comp_ex e (from (name_pat y) union hs))) env
      ≡ meaning (fun1 m f (list_of (more_exs (fun1 m f (comp_ex e (from (name_pat y) a hs))) (more_exs (fun1 m f (comp_ex e (from (name_pat y) b (cond other hs)))) no_exs)))) env
  union-means m f c t =
      let u = list-there old_items t in let s = union-split u.0 u.1 in
      fold-means m f c old_items u.0 u.1
      ∙ ap Some (folded-perm m f c s.4 ∙ folded-append m f c s.0 s.1 (folded f s.1 ∷ []) (ap (folded f) (sym (append-nil s.1)) ∙ folded-append m f c s.1 [] [] refl))
      ∙ sym (literal-means m f c (more_exs (fun1 m f (comp_ex e (from (name_pat y) a hs))) (more_exs (fun1 m f (comp_ex e (from (name_pat y) b (cond other hs)))) no_exs)) env (folded f s.0 ∷ folded f s.1 ∷ [])
      (ap (λ o. all_some (o ∷ meaning (fun1 m f (comp_ex e (from (name_pat y) b (cond other hs)))) env ∷ [])) (fold-means m f c first_items s.0 s.2)
      ∙ ap (λ o. all_some (Some (folded f s.0) ∷ o ∷ [])) (fold-means m f c second_items s.1 s.3)))

union-answer : (g : Names Ty) (e : Ex) → UnionSound g e → (env : Env) → Typed g env → OperandsThere e env → AnswerKeeps (fold_union g e) e env
union-answer g (fun1 m f (comp_ex e (from (name_pat y) (ex2 false Op2.Union a b) hs))) s env t i = when-so (is_marked m f && both_sets (type_of a g) (type_of b g)) _ (fun1 m f (comp_ex e (from (name_pat y) (ex2 false Op2.Union a b) hs))) env
    (λ q k. let there = and-left _ _ i in
    let r = operands-there (binary Op2.Union) (meaning a env) (meaning b env) (source-there (meaning (ex2 false Op2.Union a b) env) _ there) in
    let p = sets-of env.positions env.types (type_of a g) (type_of b g) r.0 r.1 (and-right _ _ q) (λ z y. s.1.0 z y env t r.0 r.2) (λ z y. s.1.1.0 z y env t r.1 r.3) in (
      union-means y a b e hs env r.0 r.1 r.2 r.3 p s.0.0 m f (and-left _ _ q) there,
      ((((k.0.0.0, first-met y a b e hs env r.0 r.1 r.2 r.3 p s.0.0 k.0.1), tt), (((k.0.0.1.0, second-met y a b e hs env r.0 r.1 r.2 r.3 p s.0.0 k.0.1 k.0.0.0), tt), tt)), tt),
    ))
union-answer g _ s env t i = tt

-- Folds over unions.
pub fold_union-keeps : (g : Names Ty) (e f : Ex) → fold_union g e ≡ Some f → UnionSound g e → (env : Env) → Typed g env → OperandsThere e env → Keeps e f env
fold_union-keeps g e f q s env t i = fires (fold_union g e) e f env (union-answer g e s env t i) q
