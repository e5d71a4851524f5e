-- Whether a header that is read is one of this tool.
use Rattle.std.proofs.Common.{◌≡◌, refl, sym, ap, ◌∙◌, subst, true, false, ◌&&◌, List, [], ◌∷◌, Option, Some, None, Ok, Err, IfOk, IfErr, map, option_map}
use Rattle.std.specs.declared.result.Result.{Result}
use Rattle.std.specs.List.{list_all}
use Rattle.ess_semantics.specs.Values.{Text}
use Rattle.ess_semantics.specs.Names.{Names}
use Rattle.ess_semantics.specs.Trees as trees
use Rattle.ess_semantics.specs.Judgements.{fault}
use Rattle.ess_semantics.specs.Prepared.{prepared}
use Rattle.ess_semantics.specs.ModelTrees as pure
use Rattle.ess_semantics.specs.ModelTrees.{in_header}
use Rattle.ess_core.specs.StatementViews.{pure_stm, pure_spec}
use Rattle.ess_types.specs.declared.checking.Typed.{Typed}
use Rattle.ess_types.specs.declared.refusal.TypeNo.{TypeNo}
use Rattle.ess_types.specs.Refusals.{refusal, IsRefused}
use Rattle.ess_core.specs.declared.statements.Stm.{Stm}
use Rattle.ess_parse.specs.declared.representations.named.NamedReprs.{NamedReprs}
use Rattle.ess_parse.specs.NamedReprViews.{pure_named_reprs}
use Rattle.ess_translate_header_laws.specs.Headers.{BeginsWith, IsOurs, HasHeader}
use Rattle.ess_translate_header_laws.proofs.OneHeader.{one-header}
use Rattle.ess_translate_header_lines.specs.Views.{header_with}
use Rattle.ess_translate_header.specs.declared.headers.Header.{Header}
use Rattle.ess_translate_header.specs.declared.headers.HeadNo.{HeadNo}
use Rattle.ess_translate_header.specs.Views.{pure_header, represent}

abbrev header_as : List trees.Stm → Names (List trees.Repr) → pure.Header
header_as ss cs = record { statements = ss; reprs = cs }

in-headers : (ss : List Stm) → list_all (λ s. in_header (pure_stm s)) ss ≡ list_all in_header (map pure_stm ss)
in-headers [] = refl
in-headers (s ∷ ss) = ap (λ b. in_header (pure_stm s) && b) (in-headers ss)

-- A statement is none of a header.
pub other_statements : (ss : List Stm) (rs : List NamedReprs) → list_all (λ s. in_header (pure_stm s)) ss ≡ false → IsOurs (header_with ss rs) → ⊥
other_statements ss rs h o = let clash : false ≡ true = sym h ∙ in-headers ss ∙ o.declares in cc

refused-fault : (S : List trees.Stm) (why : TypeNo) → (why ≡ TypeNo.NoMemory → ⊥) → IsRefused S why → fault S ≡ None → ⊥
refused-fault S TypeNo.NoMemory n h e = n refl
refused-fault S (TypeNo.UnknownName k) n h e = let no-fault : None ≡ Some (TypeNo.UnknownName k) = sym (ap (option_map refusal) e) ∙ h in cc
refused-fault S (TypeNo.DoubleName k) n h e = let no-fault : None ≡ Some (TypeNo.DoubleName k) = sym (ap (option_map refusal) e) ∙ h in cc
refused-fault S (TypeNo.IllTyped k) n h e = let no-fault : None ≡ Some (TypeNo.IllTyped k) = sym (ap (option_map refusal) e) ∙ h in cc
refused-fault S (TypeNo.NotFinite k) n h e = let no-fault : None ≡ Some (TypeNo.NotFinite k) = sym (ap (option_map refusal) e) ∙ h in cc
refused-fault S (TypeNo.NotEnumerable k) n h e = let no-fault : None ≡ Some (TypeNo.NotEnumerable k) = sym (ap (option_map refusal) e) ∙ h in cc
refused-fault S (TypeNo.OpenGiven k) n h e = let no-fault : None ≡ Some (TypeNo.OpenGiven k) = sym (ap (option_map refusal) e) ∙ h in cc

-- The specification isn't well typed.
pub ill_typed : (ss : List Stm) (rs : List NamedReprs) (why : TypeNo) (a : Result Typed TypeNo) → a ≡ Err why → (why ≡ TypeNo.NoMemory → ⊥) →
    IfErr a (IsRefused (map pure_stm ss)) → IsOurs (header_with ss rs) → ⊥
ill_typed ss rs why a e n h o = refused-fault (map pure_stm ss) why n (subst (λ x. IfErr x (IsRefused (map pure_stm ss))) e h) o.typed

-- The header that is judged is that of the statements and representations.
pub judged_header : (ss : List Stm) (rs : List NamedReprs) (t : Typed) (r : Result Header HeadNo) → t.spec ≡ record { stms = ss } →
    IfOk r (λ h. (h.spec ≡ t) × (h.reprs ≡ rs)) → IfOk r (λ h. pure_header h ≡ header_with ss rs)
judged_header ss rs t (Err why) e f = tt
judged_header ss rs t (Ok h) e f =
    ap (λ k. header_as (pure_spec k.spec) (map pure_named_reprs h.reprs)) f.0
    ∙ ap (λ q. header_as (pure_spec t.spec) (map pure_named_reprs q)) f.1 ∙ ap (λ s. header_as (pure_spec s) (map pure_named_reprs rs)) e

-- It is one of this tool.
pub judged_ours : (ss : List Stm) (rs : List NamedReprs) (t : Typed) (r : Result Header HeadNo) → list_all (λ s. in_header (pure_stm s)) ss ≡ true →
    fault (map pure_stm ss) ≡ None → pure_spec t.prepared ≡ prepared (map pure_stm ss) →
    IfOk r (λ h. represent (pure_spec t.prepared) (map pure_named_reprs rs) ≡ true) → IfOk r (λ h. IsOurs (header_with ss rs))
judged_ours ss rs t (Err why) h f p o = tt
judged_ours ss rs t (Ok k) h f p o = record {
  declares = sym (in-headers ss) ∙ h;
  typed = f;
  represented = ap (λ qs. represent qs (map pure_named_reprs rs)) (sym p) ∙ o;
}

-- What is prepared is its specification's.
pub judged_prepared : (ss : List Stm) (rs : List NamedReprs) (t : Typed) (r : Result Header HeadNo) → t.spec ≡ record { stms = ss } →
    pure_spec t.prepared ≡ prepared (map pure_stm ss) → IfOk r (λ h. (h.spec ≡ t) × (h.reprs ≡ rs)) →
    IfOk r (λ h. pure_spec h.spec.prepared ≡ prepared (pure_spec h.spec.spec))
judged_prepared ss rs t (Err why) e p f = tt
judged_prepared ss rs t (Ok h) e p f =
    subst (λ k. pure_spec k.prepared ≡ prepared (pure_spec k.spec)) (sym f.0) (p ∙ ap (λ s. prepared (pure_spec s)) (sym e))

-- The representations aren't those of its givens and finds.
pub other_reprs : (ss : List Stm) (rs : List NamedReprs) (t : Typed) (r : Result Header HeadNo) → pure_spec t.prepared ≡ prepared (map pure_stm ss) →
    IfErr r (λ why. represent (pure_spec t.prepared) (map pure_named_reprs rs) ≡ false) → r ≡ Err HeadNo.HeaderBad → IsOurs (header_with ss rs) → ⊥
other_reprs ss rs t r p b e o =
    let unfit = subst (λ x. IfErr x (λ why. represent (pure_spec t.prepared) (map pure_named_reprs rs) ≡ false)) e b in
    let clash : false ≡ true = sym unfit ∙ ap (λ qs. represent qs (map pure_named_reprs rs)) p ∙ o.represented in cc

-- ---- the header of a text

-- The header that is found.
pub header_found : (text : Text) (ss : List Stm) (rs : List NamedReprs) (r : Result Header HeadNo) → BeginsWith text (header_with ss rs) →
    IfOk r (λ h. pure_header h ≡ header_with ss rs) → IfOk r (λ h. IsOurs (header_with ss rs)) → IfOk r (λ h. HasHeader text (pure_header h))
header_found text ss rs (Err why) b e o = tt
header_found text ss rs (Ok h) b e o = subst (λ k. HasHeader text k) (sym e) (b, o)

-- There is no other.
pub only_header : (text : Text) (ss : List Stm) (rs : List NamedReprs) (r : Result Header HeadNo) → BeginsWith text (header_with ss rs) →
    IfOk r (λ h. pure_header h ≡ header_with ss rs) → IfOk r (λ h. (H : pure.Header) → HasHeader text H → H ≡ pure_header h)
only_header text ss rs (Err why) b e = tt
only_header text ss rs (Ok h) b e = λ H k. one-header text H (header_with ss rs) k.0 b ∙ sym e

-- Where it isn't one of this tool, none is.
pub no_header_found : (text : Text) (ss : List Stm) (rs : List NamedReprs) → BeginsWith text (header_with ss rs) → (IsOurs (header_with ss rs) → ⊥) →
    (H : pure.Header) → HasHeader text H → ⊥
no_header_found text ss rs b n H k = n (subst (λ x. IsOurs x) (one-header text H (header_with ss rs) k.0 b) k.1)

-- Where the text begins with no header, it has none.
pub no_lines_found : (text : Text) → ((H : pure.Header) → BeginsWith text H → ⊥) → (H : pure.Header) → HasHeader text H → ⊥
no_lines_found text n H k = n H k.0
