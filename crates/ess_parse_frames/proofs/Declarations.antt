-- One name more is one statement more.
use Rattle.std.proofs.Common.{◌≡◌, ap, ◌∙◌, ℕ, ◌+◌, ◌<◌, Bool, true, false, List, [], ◌∷◌, ◌++◌, length, take, get_or}
use Rattle.std.proofs.lemmas.List.{take_more}
use Rattle.ess_semantics.specs.Values.{Text}
use Rattle.ess_semantics.specs.Trees as pure
use Rattle.ess_parse_laws.specs.StatementEnds.{declarations}
use Rattle.ess_parse_frames.specs.Rows.{back_names}
use Rattle.ess_parse_frames.specs.Statements.{one_declared}
use Rattle.ess_parse_frames.proofs.RowLaws.{names_none, names_push}

-- no names, no statements
pub declared_none : (g : Bool) (d : pure.Dom) (ss : List pure.Stm) → declarations g (back_names []) d ss ≡ ss
declared_none true d ss = ap (λ ns. declarations true ns d ss) names_none
declared_none false d ss = ap (λ ns. declarations false ns d ss) names_none

-- a name behind others
pub declared_one : (g : Bool) (ns : List Text) (a : Text) (d : pure.Dom) (ss : List pure.Stm) →
    declarations g (back_names (ns ++ a ∷ [])) d ss ≡ one_declared g a d ∷ declarations g (back_names ns) d ss
declared_one true ns a d ss = ap (λ ms. declarations true ms d ss) (names_push ns a)
declared_one false ns a d ss = ap (λ ms. declarations false ms d ss) (names_push ns a)

-- the next of several names
pub declared_more : (g : Bool) (ns : List Text) (i : ℕ) (x : Text) (d : pure.Dom) (ss : List pure.Stm) → i < length ns →
    declarations g (back_names (take (i + 1) ns)) d ss ≡ one_declared g (get_or ns i x) d ∷ declarations g (back_names (take i ns)) d ss
declared_more g ns i x d ss h =
    ap (λ ms. declarations g (back_names ms) d ss) (take_more ns i x h) ∙ declared_one g (take i ns) (get_or ns i x) d ss
