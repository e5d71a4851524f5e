-- What stands behind a given or find.
use Rattle.std.proofs.Common.{◌≡◌, sym, ap, List, OnOk}
use Rattle.std.proofs.lemmas.Result.{on_ok_weaker}
use Rattle.std.specs.Prelude.{Result}
use Rattle.ess_semantics.specs.Values.{Text}
use Rattle.ess_semantics.specs.Names.{look}
use Rattle.ess_semantics.specs.Trees.{Dom, Stm, given, find}
use Rattle.ess_semantics.specs.Plans.{Plan}
use Rattle.conjure_model_laws.specs.Shown.{Shows, with_declared, shows_behind}
use Rattle.ess_model_shown.specs.Tables.{SameShows}
use Rattle.ess_model_shows.proofs.Behind.{same_on}

behind_is : (Ps : List Plan) (s t : Stm) (sh : Shows) → s ≡ t → SameShows (shows_behind Ps t sh) (shows_behind Ps s sh)
behind_is Ps s t sh e = record {
  first = λ a. ap (λ s. look (shows_behind Ps s sh).first a) (sym e);
  last = λ a. ap (λ s. look (shows_behind Ps s sh).last a) (sym e);
  sizes = λ a. ap (λ s. look (shows_behind Ps s sh).sizes a) (sym e);
  doms = λ a. ap (λ s. look (shows_behind Ps s sh).doms a) (sym e);
  next = ap (λ s. (shows_behind Ps s sh).next) (sym e);
}

-- A given.
pub given_behind : {T E : Type 0} (r : Result T E) (Ps : List Plan) (s : Stm) (x : Text) (d : Dom) (sh t : Shows) → s ≡ given x d
    → OnOk r (SameShows t (with_declared Ps x d sh)) → OnOk r (SameShows t (shows_behind Ps s sh))
given_behind r Ps s x d sh t e h = on_ok_weaker r (λ i. same_on t (with_declared Ps x d sh) (shows_behind Ps s sh) i (behind_is Ps s (given x d) sh e)) h

-- A find.
pub find_behind : {T E : Type 0} (r : Result T E) (Ps : List Plan) (s : Stm) (x : Text) (d : Dom) (sh t : Shows) → s ≡ find x d
    → OnOk r (SameShows t (with_declared Ps x d sh)) → OnOk r (SameShows t (shows_behind Ps s sh))
find_behind r Ps s x d sh t e h = on_ok_weaker r (λ i. same_on t (with_declared Ps x d sh) (shows_behind Ps s sh) i (behind_is Ps s (find x d) sh e)) h
