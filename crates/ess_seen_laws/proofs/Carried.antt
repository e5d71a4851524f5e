-- What is said of a place in a tree over views, by what is said of another place.
use Rattle.std.proofs.Common.{ℕ, Bool, false, List, Option}
use Rattle.ess_semantics.specs.Values.{Text}
use Rattle.ess_semantics.specs.Names.{Names}
use Rattle.ess_semantics.specs.Trees.{Ex}
use Rattle.ess_semantics.specs.Types.{Ty}
use Rattle.ess_semantics.specs.Meaning.{Env, meaning}
use Rattle.ess_semantics.specs.Contexts.{Ins, in_later, InGens, behind_condition, WhereIn, WhereGens}
use Rattle.ess_seen_laws.specs.Seen.{Bound}
use Rattle.ess_seen_laws.specs.SeenParts.{Part, scalar_part, set_part, list_part, still_part, Stands}
use Rattle.ess_seen_laws.proofs.Held.{guarded}

module _ (cells : Text → Option (Bool × List ℕ)) where
  -- A part that has what follows from its property.
  pub part-map : {o : Bool} {t : Names Bound} {e : Ex} {P Q : Ex → Type 0} → ((f : Ex) → P f → Q f) → Part cells P o t e → Part cells Q o t e
  part-map f (scalar_part m b p) = scalar_part m b (λ x h. f x (p x h))
  part-map f (set_part k s) = set_part k s
  part-map f (list_part m i) = list_part m i
  part-map f (still_part i) = still_part i

  -- At a place where names are bound as here, with what follows.
  pub carried : {at : Names Ty → Names Ty} {W : Env → (Env → Type 0) → Type 0} {o : Bool} {N M : (Text → Bool) → (Text → Bool) → Type 0}
      {r : Names Bound} {e : Ex} {P Q : Ex → Type 0} → ((u b : Text → Bool) → M u b → N u b) → ((f : Ex) → P f → Q f) →
      Stands cells at W o N r e P → Stands cells at W o M r e Q
  carried g f s = record {
    around = s.around;
    types = s.types;
    known = λ u b n h. s.known u b (g u b n) h;
    slots = s.slots;
    part = part-map f s.part;
  }

  -- In a later operand, where the first one may guard those behind it.
  pub later-operand : {at : Names Ty → Names Ty} {o : Bool} {N M : (Text → Bool) → (Text → Bool) → Type 0} {r : Names Bound} {e : Ex}
      {P Q : Ex → Type 0} (g : Bool) (x : Ex) (c : Ins) → ((u b : Text → Bool) → M u b → N u b) → ((f : Ex) → P f → Q f) →
      Stands cells at (WhereIn false c) o N r e P → Stands cells at (WhereIn g (in_later x c)) o M r e Q
  later-operand g x c h f s = record {
    around = s.around;
    types = s.types;
    known = λ u b n k. s.known u b (h u b n) k;
    slots = λ env k. guarded g (meaning x env) _ (s.slots env k);
    part = part-map f s.part;
  }

  -- Behind a condition.
  pub behind-where : {at : Names Ty → Names Ty} {o : Bool} {N M : (Text → Bool) → (Text → Bool) → Type 0} {r : Names Bound} {e : Ex}
      {P Q : Ex → Type 0} (x : Ex) (c : InGens) → ((u b : Text → Bool) → M u b → N u b) → ((f : Ex) → P f → Q f) →
      Stands cells at (WhereGens c) o N r e P → Stands cells at (WhereGens (behind_condition x c)) o M r e Q
  behind-where x c h f s = record {
    around = s.around;
    types = s.types;
    known = λ u b n k. s.known u b (h u b n) k;
    slots = λ env k q. s.slots env k;
    part = part-map f s.part;
  }
