-- Worked example: `letting C be new type enum {red, blue}  find x : C`.
use Rattle.std.proofs.Common.{◌≡◌, refl, [], ◌∷◌, List, pos, codes, None}
use Rattle.ess_semantics.specs.Trees.{number_ex, name_dom, Stm, let_enum, find}
use Rattle.ess_semantics.specs.Judgements.{fault}
use Rattle.conjure_model_laws.specs.Shown.{in_place, shows_of}

abbrev S : List Stm
S = let_enum (codes "C") (codes "red" ∷ codes "blue" ∷ []) ∷ find (codes "x") (name_dom (codes "C")) ∷ []

well-typed : fault S ≡ None
well-typed = refl

second : in_place (shows_of S []).first (codes "blue") ≡ number_ex (pos 2)
second = refl
