-- A tree told apart, shown, rewritten and printed means what it meant.
use Rattle.std.proofs.Common.{◌≡◌, ◌∙◌, ℕ, Bool, []}
use Rattle.ess_semantics.specs.Values.{Text}
use Rattle.ess_semantics.specs.Trees.{Ex}
use Rattle.ess_semantics.specs.Substitution.{NamesAre}
use Rattle.ess_semantics.specs.Meaning.{Env, meaning}
use Rattle.ess_semantics.specs.Meets.{Meets}
use Rattle.conjure_model_laws.specs.ToldApart.{told_apart}
use Rattle.conjure_model_laws.specs.Shown.{Shows, shown}
use Rattle.conjure_model_laws.specs.StandsFor.{is_unshown, IsReady}
use Rattle.conjure_model_laws.specs.TreeLaws.{WrittenTreesStand}
use Rattle.conjure_model_laws.proofs.ToldNames.{ex-names}
use Rattle.conjure_model_laws.proofs.ToldLaws.{names-told-apart}
use Rattle.conjure_model_laws.proofs.ShownLaws.{shown-stands}
use Rattle.conjure_model_laws.proofs.PrintedLaws.{names-printed}

module _ (sh : Shows) (n : Text → Bool) (env there : Env) (k : ℕ) (u : Text → Bool) (e : Ex) (R : IsReady sh n env there k u e) where
  named : NamesAre n (is_unshown sh) (told_apart k e)
  named = ex-names n (is_unshown sh) R.reserved_in_use R.reserved_unshown e u [] k R.plain R.free R.in_use

  tree-means : meaning (shown sh (told_apart k e)) there ≡ meaning e env
  tree-means = shown-stands.means sh n env there R.stands (told_apart k e) (names-told-apart.plain k e R.plain) named
      ∙ names-told-apart.means k u e R.plain R.free R.unreserved R.few env

  tree-meets : Meets (shown sh (told_apart k e)) there
  tree-meets = shown-stands.meets sh n env there R.stands (told_apart k e) (names-told-apart.plain k e R.plain)

-- What is proved of what is written for a tree.
pub written-trees-stand : WrittenTreesStand
written-trees-stand = record {
  means = tree-means;
  meets = tree-meets;
  written = λ sh n env there k u e R taken g last kept w o l p.
      names-printed.of_kept taken g (shown sh (told_apart k e)) last kept w o l there p (tree-meets sh n env there k u e R)
      ∙ tree-means sh n env there k u e R;
}
