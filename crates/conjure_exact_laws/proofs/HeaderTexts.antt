-- What is written by a model's header for tables that satisfy the model is the text of what they stand for, which comes back.
use Rattle.std.proofs.Common.{◌≡◌, refl, sym, ap, ◌∙◌, subst, [], ◌∷◌, map, Option, Some}
use Rattle.ess_semantics.specs.Values.{Text, Value}
use Rattle.ess_semantics.specs.Names.{Names}
use Rattle.ess_semantics.specs.Plans.{values_stood_for}
use Rattle.ess_values_laws.specs.ItemNames.{item_name}
use Rattle.ess_letting_texts_laws.specs.LettingTexts.{lettings_text}
use Rattle.conjure_round_laws.specs.LetLiterals.{names_under}
use Rattle.conjure_round_laws.specs.ComeBack.{IsValidFile}
use Rattle.conjure_round_laws.proofs.HeaderWalks.{here-header, values-header}
use Rattle.conjure_round_laws.proofs.TextsComeBack.{satisfying-come-back}
use Rattle.conjure_exact_laws.specs.Laws.{HeaderTextsAreValid}

-- Values that are there, with their names.
abbrev all_values : Names Value → Names (Option Value)
all_values vs = map (λ v. (v.0, Some v.1)) vs

of-some : (v w : Value) → Some v ≡ Some w → v ≡ w
of-some v w e = cc

-- They are known from their entries.
one-values : (vs ws : Names Value) → all_values vs ≡ all_values ws → vs ≡ ws
one-values [] [] e = refl
one-values [] (w ∷ ws) e = cc
one-values (v ∷ vs) [] e = cc
one-values (v ∷ vs) (w ∷ ws) e =
    let h : (v.0, Some v.1) ≡ (w.0, Some w.1) = cc in
    let x : v.0 ≡ w.0 = ap (λ (b : Text × Option Value). b.0) h in
    let y : v.1 ≡ w.1 = of-some v.1 w.1 (ap (λ (b : Text × Option Value). b.1) h) in
    let z : all_values vs ≡ all_values ws = cc in
    ap (λ a. (a, v.1) ∷ vs) x ∙ ap (λ u. (w.0, u) ∷ vs) y ∙ ap (λ l. w ∷ l) (one-values vs ws z)

-- What is written by a model's header is valid.
pub header-texts-valid : HeaderTextsAreValid
header-texts-valid S o H E p q c vs text e r M P l g s v t =
    let k = satisfying-come-back S o H E p q c e r M P l g s in
    let same : values_stood_for H.statements H.reprs p c ≡ values_stood_for S o p c =
    ap (λ K. values_stood_for K.statements K.reprs p c) M.header ∙ values-header S o p c e in
    let w : vs ≡ k.values = one-values vs k.values (sym v ∙ same ∙ k.stood_for) in
    subst (IsValidFile S p)
    (ap (lettings_text (names_under S p)) (sym w)
    ∙ sym (ap (λ K. lettings_text (names_under K.statements p) vs) M.header ∙ ap (λ z. lettings_text (item_name z.types) vs) (here-header S p))
    ∙ sym t) k.text
