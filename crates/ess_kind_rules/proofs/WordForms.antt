-- Rules of words of a comprehension, by the parts of the root.
use Rattle.std.proofs.Common.{◌≡◌, refl, sym, ap, ◌∙◌, Bool, true, false, if◌then◌else◌, not, List, [], ◌∷◌, map, Option, Some, None, option_map}
use Rattle.ess_semantics.specs.declared.words.Fun.{Fun}
use Rattle.ess_semantics.specs.Lists.{and_then}
use Rattle.ess_semantics.specs.Names.{Names}
use Rattle.ess_semantics.specs.Types.{Ty}
use Rattle.ess_semantics.specs.Trees.{word, name_pat, Ex, node_ex, comp_ex, fun1, Gens, from}
use Rattle.ess_semantics.specs.ExpressionJudgements.{forgets_order}
use Rattle.ess_rules_laws.specs.FoldRules.{is_laid_open}
use Rattle.ess_rules_laws.specs.Listings.{Alternative}
use Rattle.ess_rules_laws.specs.ListedSources.{laid_out, source_parts}
use Rattle.ess_rules_laws.specs.ListRules.{members_list, different_term}
use Rattle.ess_refine_laws.specs.ExtremeAlternatives.{extreme_alternatives}
use Rattle.ess_refine_laws.specs.ExtremeRules.{is_extreme}
use Rattle.ess_refine_laws.specs.AllRules.{Supply, only_one}
use Rattle.ess_open_rules_laws.specs.OpenSources.{picked_members, comp_offered, several, over_one_opened, over_each_picked, least_of_several, set_of_several, set_of_term, is_counted_apart, counted_apart}
use Rattle.ess_rules_folds.specs.Forms.{word_parts, are_none, only_operand, fold_parts}
use Rattle.ess_rules_opening.specs.OpenedViews.{WordParts, comp_word}
use Rattle.ess_kind_rules.specs.WordParts.{least_by, set_by, makes_set, tells_apart}

module _ (s : Supply) (g : Names Ty) where
  pub one_by_parts : (e : Ex) → over_one_opened s g e ≡ and_then (comp_word e) (λ p. if forgets_order (word p.fun)
      then option_map (λ a. fun1 p.mark p.fun (laid_out a)) (only_one (comp_offered s g p.body p.gens)) else None)
  one_by_parts (fun1 m f (comp_ex e gs)) = refl
  one_by_parts e = refl

  pub picked_by_parts : (e : Ex) → over_each_picked s g e
      ≡ and_then (fold_parts e) (λ p. if are_none p.others then and_then (picked_members s g p.source) (λ l. source_parts l e) else None)
  picked_by_parts (fun1 m f (comp_ex e (from (name_pat y) t hs))) = refl
  picked_by_parts e = refl

  pub least_by_parts : (e : Ex) → least_of_several s g e ≡ and_then (comp_word e) (least_by s g)
  least_by_parts (fun1 false f (comp_ex e gs)) = refl
  least_by_parts (fun1 true f (comp_ex e gs)) = refl
  least_by_parts e = refl

  set-word : (f : Fun) (e : Ex) (gs : Gens) → set_of_several s g (fun1 false f (comp_ex e gs)) ≡ and_then (comp_word (fun1 false f (comp_ex e gs))) (set_by s g)
  set-word Fun.ToSet e gs = refl
  set-word f e gs = refl

  pub set_by_parts : (e : Ex) → set_of_several s g e ≡ and_then (comp_word e) (set_by s g)
  set_by_parts (fun1 false Fun.ToSet (comp_ex e gs)) = refl
  set_by_parts (fun1 true f (comp_ex e gs)) = refl
  set_by_parts (fun1 false f (comp_ex e gs)) = set-word f e gs
  set_by_parts e = refl

  -- The same of `allDiff`.
  abbrev apart-by : Ex → WordParts → Option Ex
  apart-by e p = if p.mark then (if tells_apart p.fun
      then (if is_counted_apart s g p.body p.gens then different_term s.one e else None) else None) else None

  apart-word : (f : Fun) (e : Ex) (gs : Gens) → counted_apart s g (fun1 true f (comp_ex e gs))
      ≡ and_then (comp_word (fun1 true f (comp_ex e gs))) (apart-by (fun1 true f (comp_ex e gs)))
  apart-word Fun.AllDiff e gs = refl
  apart-word f e gs = refl

  pub apart_by_parts : (e : Ex) → counted_apart s g e ≡ and_then (comp_word e) (λ p. if p.mark then (if tells_apart p.fun
      then (if is_counted_apart s g p.body p.gens then different_term s.one e else None) else None) else None)
  apart_by_parts (fun1 true Fun.AllDiff (comp_ex e gs)) = refl
  apart_by_parts (fun1 false f (comp_ex e gs)) = refl
  apart_by_parts (fun1 true f (comp_ex e gs)) = apart-word f e gs
  apart_by_parts e = refl

pub set_term_by_parts : (s : Supply) (e : Ex) → set_of_term s e ≡ and_then (word_parts e) (λ w. if w.0 then None else (if makes_set w.1
    then and_then (only_operand w.2) (λ t. if is_laid_open t then None else Some (fun1 false Fun.ToSet (members_list s.one t))) else None))
set_term_by_parts s (fun1 false Fun.ToSet t) = refl
set_term_by_parts s (node_ex true (word f) es) = refl
set_term_by_parts s e = refl

-- ---- several alternatives

-- Of one alternative there aren't several, else there are those that there are.
pub several_of_one : (l : List Alternative) (o : Option (List Alternative)) (a : Alternative) → Some a ≡ only_one (Some l) → Some l ≡ o
    → None ≡ several o
several_of_one (b ∷ []) o a h e = ap several e
several_of_one [] o a h e = cc
several_of_one (b ∷ c ∷ l) o a h e = cc

pub several_of_more : (l : List Alternative) (o : Option (List Alternative)) → None ≡ only_one (Some l) → Some l ≡ o → Some l ≡ several o
several_of_more [] o h e = ap several e
several_of_more (b ∷ []) o h e = cc
several_of_more (b ∷ c ∷ l) o h e = ap several e

least-is : (m x : Bool) (q : Option (List Alternative)) (f : List Alternative → Option Ex) (l : List Alternative) → m ≡ false → x ≡ true
    → Some l ≡ q → f l ≡ (if m then None else (if x then and_then q f else None))
least-is false true q f l m x e = ap (λ q. and_then q f) e
least-is true b q f l m x e = cc
least-is false false q f l m x e = cc

-- What is made of several alternatives.
pub least_put : (s : Supply) (g : Names Ty) (p : WordParts) (l : List Alternative) (o : Option Ex)
    → p.mark ≡ false → is_extreme p.fun ≡ true → Some l ≡ several (comp_offered s g p.body p.gens)
    → ((t : Ex) → o ≡ extreme_alternatives l (fun1 false p.fun t)) → o ≡ least_by s g p
least_put s g p l o m x e h =
    h (comp_ex p.body p.gens)
    ∙ least-is p.mark (is_extreme p.fun) (several (comp_offered s g p.body p.gens))
    (λ k. extreme_alternatives k (fun1 false p.fun (comp_ex p.body p.gens))) l m x e
