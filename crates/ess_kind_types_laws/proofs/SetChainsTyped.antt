-- Chains of rules of views of sets keep types and marks.
use Rattle.std.proofs.Common.{◌≡◌, refl, true, Some}
use Rattle.ess_semantics.specs.Names.{Names}
use Rattle.ess_semantics.specs.Trees.{Ex, number_ex, truth_ex, name_ex, node_ex, matrix_ex, comp_ex, cell_ex, seen_ex}
use Rattle.ess_semantics.specs.Types.{Ty}
use Rattle.ess_semantics.specs.Typing.{static, other}
use Rattle.ess_semantics.specs.Contexts.{fill}
use Rattle.ess_semantics.specs.NamesAt.{names_at}
use Rattle.ess_refine_laws.specs.AllRules.{Supply}
use Rattle.ess_refine_laws.proofs.TypesStay.{types-stay}
use Rattle.ess_refine_laws.proofs.MarksStay.{marks-stay}
use Rattle.ess_kind_rules_laws.specs.KindRules.{KindRule, cell_of_an_atom, over_a_view, of_one_view, member_at_a_cell, size_at_the_marker, size_of_slots, kind_rewrite}
use Rattle.ess_kind_sizes_laws.specs.SetRules.{is_of_sets}
use Rattle.ess_kind_types_laws.specs.SetChainsTyped.{KeepsMarked, as_typed, set_at, otherwise, SetChainsKeepTypes}
use Rattle.ess_kind_types_laws.proofs.SetsKeepTypes.{set-rules-keep-types}
use Rattle.ess_kind_types_laws.proofs.SetsKeepMarks.{set-rules-keep-marks}

-- No rule of views of sets fires at a numeral or at a name, which say something to an index.
says-nothing : (s : Supply) (g : Names Ty) (r : KindRule) (e f : Ex) → kind_rewrite s g r e ≡ Some f → is_of_sets r ≡ true →
    static e ≡ other
says-nothing s g r (truth_ex b) f q i = refl
says-nothing s g r (node_ex b op es) f q i = refl
says-nothing s g r (matrix_ex es d) f q i = refl
says-nothing s g r (comp_ex e gs) f q i = refl
says-nothing s g r (cell_ex b n es) f q i = refl
says-nothing s g r (seen_ex x d ns js) f q i = refl
says-nothing s g cell_of_an_atom (number_ex n) f q i = cc
says-nothing s g over_a_view (number_ex n) f q i = cc
says-nothing s g of_one_view (number_ex n) f q i = cc
says-nothing s g member_at_a_cell (number_ex n) f q i = cc
says-nothing s g size_at_the_marker (number_ex n) f q i = cc
says-nothing s g size_of_slots (number_ex n) f q i = cc
says-nothing s g _ (number_ex n) f q i = cc
says-nothing s g cell_of_an_atom (name_ex a) f q i = cc
says-nothing s g over_a_view (name_ex a) f q i = cc
says-nothing s g of_one_view (name_ex a) f q i = cc
says-nothing s g member_at_a_cell (name_ex a) f q i = cc
says-nothing s g size_at_the_marker (name_ex a) f q i = cc
says-nothing s g size_of_slots (name_ex a) f q i = cc
says-nothing s g _ (name_ex a) f q i = cc

-- Types and marks along a chain.
pub set-chains-keep-types : SetChainsKeepTypes
set-chains-keep-types g old new as_typed = record { type_stays = λ t q. q; marks_stay = λ m. m }
set-chains-keep-types g old new (otherwise {b = b} k c) =
    let r : KeepsMarked g b new = set-chains-keep-types g b new c in
    record { type_stays = λ t q. r.type_stays t (k.type_stays t q); marks_stay = λ m. r.marks_stay (k.marks_stay m) }
set-chains-keep-types g old new (set_at a b s x c t q i h p n) =
    let y = names_at c g in
    let z = says-nothing s y x a b q i in
    let u = set-rules-keep-types s y x a b q i h in
    let r : KeepsMarked g (fill c b) new = set-chains-keep-types g (fill c b) new n in
    record {
      type_stays = λ v j. r.type_stays v (types-stay.at_a_part c g a b z u v j);
      marks_stay = λ m. r.marks_stay (marks-stay.at_a_part c g a b z u (set-rules-keep-marks s y x a b q i h t p) m);
    }
