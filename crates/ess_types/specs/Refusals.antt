-- Refusals, as the definitions' first fault of a specification says them.
use Rattle.std.specs.Prelude.{◌≡◌, ℕ, Bool, List, Option, Some, None, option_map, min, if◌then◌else◌}
use Rattle.ess_semantics.specs.Trees.{Stm}
use Rattle.ess_semantics.specs.Judgements as pure
use Rattle.ess_semantics.specs.Judgements.{unknown_name, double_name, ill_typed, not_finite, not_enumerable, open_given, fault}
use Rattle.ess_types.specs.declared.refusal.TypeNo.{TypeNo}
use Rattle.ess_types.specs.declared.refusal.Judgement.{Judgement}

-- The judgement of the definitions.
abbrev pub pure_judgement : Judgement → pure.Judgement
pure_judgement Judgement.UnknownName = unknown_name
pure_judgement Judgement.DoubleName = double_name
pure_judgement Judgement.IllTyped = ill_typed
pure_judgement Judgement.NotFinite = not_finite
pure_judgement Judgement.NotEnumerable = not_enumerable
pure_judgement Judgement.OpenGiven = open_given

-- A statement's number, kept at 2^32 - 1.
abbrev pub kept_number : ℕ → ℕ
kept_number k = min k 4294967295

-- The refusal of a statement that fails a judgement.
abbrev pub refusal : pure.Judgement × ℕ → TypeNo
refusal (unknown_name, k) = TypeNo.UnknownName (kept_number k)
refusal (double_name, k) = TypeNo.DoubleName (kept_number k)
refusal (ill_typed, k) = TypeNo.IllTyped (kept_number k)
refusal (not_finite, k) = TypeNo.NotFinite (kept_number k)
refusal (not_enumerable, k) = TypeNo.NotEnumerable (kept_number k)
refusal (open_given, k) = TypeNo.OpenGiven (kept_number k)

-- The refusal is that of the first fault of the statements, or want of memory.
abbrev pub IsRefused : List Stm → TypeNo → Type 0
IsRefused S TypeNo.NoMemory = Unit
IsRefused S (TypeNo.UnknownName n) = option_map refusal (fault S) ≡ Some (TypeNo.UnknownName n)
IsRefused S (TypeNo.DoubleName n) = option_map refusal (fault S) ≡ Some (TypeNo.DoubleName n)
IsRefused S (TypeNo.IllTyped n) = option_map refusal (fault S) ≡ Some (TypeNo.IllTyped n)
IsRefused S (TypeNo.NotFinite n) = option_map refusal (fault S) ≡ Some (TypeNo.NotFinite n)
IsRefused S (TypeNo.NotEnumerable n) = option_map refusal (fault S) ≡ Some (TypeNo.NotEnumerable n)
IsRefused S (TypeNo.OpenGiven n) = option_map refusal (fault S) ≡ Some (TypeNo.OpenGiven n)

-- The first judgement that isn't met, where each is met or not.
abbrev pub first_of : Bool → Bool → Bool → Bool → Bool → Bool → Option pure.Judgement
first_of known new typed finite enumerable known_slots =
    if known then
    (if new then
    (if typed then
    (if finite then (if enumerable then (if known_slots then None else Some open_given) else Some not_enumerable) else Some not_finite)
    else Some ill_typed)
    else Some double_name)
    else Some unknown_name
