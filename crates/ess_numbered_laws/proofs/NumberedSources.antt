-- Comprehensions over terms whose items are counted, items of these, and pairs with them on a side stay what they are.
use Rattle.std.proofs.Common.{◌≡◌, refl, ap, subst, Bool, true, false, if◌then◌else◌, [], ◌∷◌, Option, Some, None, option_map, is_some}
use Rattle.ess_semantics.specs.declared.words.Op2.{Op2}
use Rattle.ess_semantics.specs.Lists.{and_then, or_else}
use Rattle.ess_semantics.specs.Names.{Names}
use Rattle.ess_semantics.specs.Trees.{binary, by_value, index, name_pat, Ex, node_ex, comp_ex, no_exs, more_exs, Gens, no_gens, over, from, cond, ex2}
use Rattle.ess_semantics.specs.Types.{Ty}
use Rattle.ess_semantics.specs.NamesAt.{names_behind}
use Rattle.ess_semantics.specs.Meaning.{Env, meaning}
use Rattle.ess_semantics.specs.Contexts.{hole, in_operand, in_generators, in_first, in_later, in_source, guards, AtEach}
use Rattle.ess_semantics.specs.Kept.{Keeps}
use Rattle.ess_rules_laws.specs.SpliceRules.{append_gens}
use Rattle.ess_rules_laws.proofs.Bindings.{at-each-map}
use Rattle.ess_rules_laws.proofs.Kept.{guarded-true}
use Rattle.ess_rules_laws.proofs.KeptUnder.{step-here}
use Rattle.ess_rules_laws.proofs.RuleAnswers.{AnswerKeeps, fires}
use Rattle.ess_rules_laws.proofs.Tails.{tails-congruent}
use Rattle.ess_refine_laws.specs.AllRules.{Supply, OfSome}
use Rattle.ess_open_rules_laws.specs.OpenGenerators.{Opened, with_first, opened_here, is_plain_over, at_first_open, put_before, behind_plain}
use Rattle.ess_numbered_laws.specs.CountedSources.{numbered_term, numbered_source, numbered_behind, within_an_item, sees_order, numbered_side, within_a_pair}
use Rattle.ess_numbered_laws.specs.CountedLaws.{SourceAsks, ListAsks, NumberedListsKeep, WithinAsks, ItemsOfListsKeep, PairAsks, PairsKeep}
use Rattle.ess_numbered_laws.proofs.NumberedTerms.{terms-keep}
use Rattle.ess_numbered_laws.specs.MostItems.{most_items}

-- ---- the first generator

source-answer : (s : Supply) (g : Names Ty) (e : Ex) (env : Env) → SourceAsks s g e env → AnswerKeeps (numbered_source s g e) e env
source-answer s g (comp_ex e (from (name_pat y) t hs)) env h = go (numbered_term s g t) refl
  where
    go : (o : Option Ex) → numbered_term s g t ≡ o
        → AnswerKeeps (option_map (λ l. comp_ex e (from (name_pat y) l hs)) o) (comp_ex e (from (name_pat y) t hs)) env
    go None q = tt
    go (Some l) q = step-here (in_generators e (in_source (name_pat y) hole hs)) t l env (terms-keep s g t l q env h)
source-answer s g _ env h = tt

-- A comprehension over such a term.
sources-keep : (s : Supply) (g : Names Ty) (e f : Ex) → numbered_source s g e ≡ Some f → (env : Env) → SourceAsks s g e env → Keeps e f env
sources-keep s g e f q env h = fires (numbered_source s g e) e f env (source-answer s g e env h) q

-- ---- behind plain generators

-- Both parts are the generators.
parts-are : (gs : Gens) → OfSome (at_first_open gs) (λ t. append_gens t.before t.after ≡ gs)
parts-are no_gens = tt
parts-are (over p d gs) = go (is_plain_over p d) (at_first_open gs) (parts-are gs)
  where
    go : (b : Bool) (o : Option Opened) → OfSome o (λ t. append_gens t.before t.after ≡ gs)
        → OfSome (if b then option_map (with_first (over p d)) o else Some (opened_here (over p d gs)))
        (λ t. append_gens t.before t.after ≡ over p d gs)
    go true None h = tt
    go true (Some t) h = ap (over p d) h
    go false o h = refl
parts-are (from p e gs) = refl
parts-are (cond c gs) = go (at_first_open gs) (parts-are gs)
  where
    go : (o : Option Opened) → OfSome o (λ t. append_gens t.before t.after ≡ gs)
        → OfSome (option_map (with_first (cond c)) o) (λ t. append_gens t.before t.after ≡ cond c gs)
    go None h = tt
    go (Some t) h = ap (cond c) h

-- What keeps the comprehension at its first generator that isn't plain keeps it behind the plain ones. P is what that counts on.
module _ (r : Gens → Ex → Option Ex) (P : Gens → Ex → Env → Type 0)
    (keeps : (before : Gens) (e f : Ex) → r before e ≡ Some f → (env : Env) → P before e env → Keeps e f env) where
  -- At each binding of plain generators.
  abbrev pub Behind : Ex → Env → Type 0
  Behind (comp_ex e gs) env = OfSome (at_first_open gs) (λ t. AtEach t.before env (P t.before (comp_ex e t.after)))
  Behind e env = Unit {0}

  -- So the comprehension is kept.
  pub plain-answer : (e : Ex) (env : Env) → Behind e env → AnswerKeeps (behind_plain r e) e env
  plain-answer (comp_ex e gs) env c = go (at_first_open gs) (parts-are gs) c
    where
      put : (t : Opened) → append_gens t.before t.after ≡ gs → (o : Option Ex) → r t.before (comp_ex e t.after) ≡ o
          → AtEach t.before env (P t.before (comp_ex e t.after)) → AnswerKeeps (and_then o (put_before t.before)) (comp_ex e gs) env
      put t a None q c = tt
      put t a (Some (comp_ex x ks)) q c = subst (λ z. Keeps (comp_ex e z) (comp_ex x (append_gens t.before ks)) env) a
          (tails-congruent t.before t.after ks e x env (at-each-map t.before env _ _
          (λ here p. keeps t.before (comp_ex e t.after) (comp_ex x ks) q here p) c))
      put t a (Some _) q c = tt

      go : (o : Option Opened) → OfSome o (λ t. append_gens t.before t.after ≡ gs)
          → OfSome o (λ t. AtEach t.before env (P t.before (comp_ex e t.after)))
          → AnswerKeeps (and_then o (λ t. and_then (r t.before (comp_ex e t.after)) (put_before t.before))) (comp_ex e gs) env
      go None a c = tt
      go (Some t) a c = put t a (r t.before (comp_ex e t.after)) refl c
  plain-answer _ env c = tt

behind-answer : (s : Supply) (g : Names Ty) (e : Ex) (env : Env) → ListAsks s g e env → AnswerKeeps (numbered_behind s g e) e env
behind-answer s g (comp_ex e gs) env c = plain-answer (λ gs. numbered_source s (names_behind gs g)) (λ gs. SourceAsks s (names_behind gs g))
    (λ gs. sources-keep s (names_behind gs g)) (comp_ex e gs) env c
behind-answer s g _ env c = tt

-- So it keeps the comprehension.
pub lists-keep : NumberedListsKeep
lists-keep s g e f q env c = fires (numbered_behind s g e) e f env (behind-answer s g e env c) q

-- ---- an item by its number

-- What keeps a list keeps its item.
pub item-answer : (b : Bool) (a i : Ex) (env : Env) (o : Option Ex) → AnswerKeeps o a env
    → AnswerKeeps (option_map (λ c. node_ex b (index (by_value ∷ [])) (more_exs c (more_exs i no_exs))) o)
    (node_ex b (index (by_value ∷ [])) (more_exs a (more_exs i no_exs))) env
item-answer b a i env None k = tt
item-answer b a i env (Some c) k = step-here (in_operand b (index (by_value ∷ [])) (in_first hole (more_exs i no_exs))) a c env k

within-answer : (s : Supply) (g : Names Ty) (e : Ex) (env : Env) → WithinAsks s g e env → AnswerKeeps (within_an_item s g e) e env
within-answer s g (node_ex b (index (by_value ∷ [])) (more_exs a (more_exs i no_exs))) env h =
    item-answer b a i env (numbered_behind s g a) (behind-answer s g a env h)
within-answer s g _ env h = tt

-- So an item of such a comprehension is kept.
pub items-keep : ItemsOfListsKeep
items-keep s g e f q env h = fires (within_an_item s g e) e f env (within-answer s g e env h) q

-- ---- a side of a pair

-- What keeps one side keeps the pair.
pub side-answer : (o : Op2) (a b : Ex) (env : Env) (p q : Option Ex) → AnswerKeeps p a env → AnswerKeeps q b env
    → AnswerKeeps (or_else (option_map (λ c. ex2 true o c b) p) (option_map (λ c. ex2 true o a c) q)) (ex2 true o a b) env
side-answer o a b env None None k h = tt
side-answer o a b env None (Some c) k h = step-here (in_operand true (binary o) (in_later a (in_first hole no_exs))) b c env
    (guarded-true (guards (binary o)) (meaning a env) (Keeps b c env) h)
side-answer o a b env (Some c) q k h = step-here (in_operand true (binary o) (in_first hole (more_exs b no_exs))) a c env k

-- A side is kept where it is by the numbers of its first source.
unbounded-answer : (s : Supply) (g : Names Ty) (a : Ex) (env : Env) → ListAsks s g a env → AnswerKeeps (numbered_side s g a) a env
unbounded-answer s g a env h = go (is_some (most_items s.third a))
  where
    go : (c : Bool) → AnswerKeeps (if c then None else numbered_behind s g a) a env
    go true = tt
    go false = behind-answer s g a env h

pair-answer : (s : Supply) (g : Names Ty) (e : Ex) (env : Env) → PairAsks s g e env → AnswerKeeps (within_a_pair s g e) e env
pair-answer s g (ex2 true o a b) env h = go (sees_order o)
  where
    go : (c : Bool) → AnswerKeeps (if c then or_else (option_map (λ c. ex2 true o c b) (numbered_side s g a))
        (option_map (λ c. ex2 true o a c) (numbered_side s g b)) else None) (ex2 true o a b) env
    go true =
        side-answer o a b env (numbered_side s g a) (numbered_side s g b) (unbounded-answer s g a env h.0) (unbounded-answer s g b env h.1)
    go false = tt
pair-answer s g _ env h = tt

-- So the pair is kept.
pub pairs-keep : PairsKeep
pairs-keep s g e f q env h = fires (within_a_pair s g e) e f env (pair-answer s g e env h) q
