-- A rule for the first generator serves at a later one, also where it changes the order of items, under words that forget that.
use Rattle.std.specs.Prelude.{◌≡◌, Bool, true, false}
use Rattle.ess_semantics.specs.declared.words.Fun.{Fun}
use Rattle.ess_semantics.specs.Trees.{word, Ex, comp_ex, fun1, Gens}
use Rattle.ess_semantics.specs.ExpressionJudgements.{forgets_order}
use Rattle.ess_semantics.specs.Contexts.{AtEach}
use Rattle.ess_semantics.specs.Meaning.{Env}
use Rattle.ess_semantics.specs.Kept.{Keeps}
use Rattle.ess_rules_laws.specs.SpliceRules.{append_gens}

-- The multiset of the items of a comprehension.
abbrev pub items_counted : Ex → Gens → Ex
items_counted e gs = fun1 false Fun.ToMSet (comp_ex e gs)

-- What keeps that multiset at each binding of generators keeps any word that forgets order, with these generators before.
abbrev pub UnorderedTails : Type 0
UnorderedTails = (m : Bool) (w : Fun) → forgets_order (word w) ≡ true → (gs hs ks : Gens) (e f : Ex) (env : Env) →
    AtEach gs env (Keeps (items_counted e hs) (items_counted f ks)) →
    Keeps (fun1 m w (comp_ex e (append_gens gs hs))) (fun1 m w (comp_ex f (append_gens gs ks))) env
