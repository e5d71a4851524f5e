-- Worked examples of what the words ask for, and of what is said of a refused item.
use Rattle.std.specs.Prelude.{◌≡◌, [], ◌∷◌, codes, Some, None, refl}
use Rattle.std.specs.Fmt.{digits}
use Rattle.std.specs.Char.{encode_utf8}
use Rattle.std.specs.Str.{chars}
use Rattle.conjure_modelling.specs.declared.refusal.ModelNo.{ModelNo}
use Rattle.conjure_cli.specs.Reasons.{item_line}
use Rattle.conjure_cli.specs.Refusals.{unmodelled}
use Rattle.conjure_cli.specs.Tasks.{refine, asked}
use Rattle.conjure_cli.specs.Runs.{outcome_status}

-- a file alone
one_file : asked (codes "modelling" ∷ codes "a.essence" ∷ [])
    ≡ Some (refine (codes "a.essence") (codes "conjure-output/model000001.eprime") None)
one_file = refl

-- with a folder and a list of representations
folder_and_list : asked (codes "modelling" ∷ codes "--use-repr" ∷ codes "s:Explicit" ∷ codes "-o" ∷ codes "d" ∷ codes "a.essence" ∷ [])
    ≡ Some (refine (codes "a.essence") (codes "d/model000001.eprime") (Some (codes "s:Explicit")))
unfolding chars encode_utf8
folder_and_list = refl

-- the second item of a list is refused
second_item : item_line 2 ≡ codes "conjure: --use-repr: item 2 is refused\n"
unfolding digits
second_item = refl

refused_item : outcome_status (unmodelled (ModelNo.BadRepresentation 2)) ≡ 3
refused_item = refl
