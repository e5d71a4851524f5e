-- The model that is answered is the one of the definitions.
use Rattle.std.proofs.Common.{◌≡◌, refl, sym, ap, ◌∙◌, subst, List, filter, None, Ok, Err, IfOk}
use Rattle.std.specs.declared.result.Result.{Result}
use Rattle.ess_semantics.specs.Values.{Text}
use Rattle.ess_semantics.specs.Names.{keys}
use Rattle.ess_semantics.specs.Trees.{Stm}
use Rattle.ess_semantics.specs.Judgements.{fault}
use Rattle.ess_semantics.specs.Prepared.{prepared}
use Rattle.ess_semantics.specs.Solutions.{finds}
use Rattle.ess_semantics.specs.Plans.{Options, Plan, plans, names_of_plans}
use Rattle.ess_semantics.specs.ModelTrees.{Header, in_header}
use Rattle.eprime_tree.specs.Views.{pure_model}
use Rattle.eprime_tree.specs.declared.models.PModel.{PModel}
use Rattle.conjure_model_laws.specs.Shown.{Shows, shows_nothing, shows_from, shows_of}
use Rattle.conjure_model_laws.specs.IsBuiltFrom.{taken_names}
use Rattle.ess_translate_header_laws.specs.WrittenLines.{header_texts}
use Rattle.ess_model_shown.specs.Tables.{SameShows}
use Rattle.ess_models.specs.declared.wholes.Modelled.{Modelled}
use Rattle.ess_models.specs.Checked.{Fit}
use Rattle.ess_models.specs.Parts.{scope_of_tables}
use Rattle.ess_models.specs.Coming.{AreParts, ModelComes}
use Rattle.ess_models.specs.Modelled.{IsModelOf, IsModelled}
use Rattle.ess_models.proofs.Chosen.{chosen-are}
use Rattle.ess_models.proofs.SameParts.{are-declared-same, are-rules-same, lacking-same}

-- The header of a specification with representations of its givens and finds.
abbrev header_with : List Stm → Options → Header
header_with S o = record { statements = filter in_header S; reprs = o }

module _ (S : List Stm) (o : Options) (typed : fault S ≡ None) (fit : Fit S o) (sh : Shows) (same : SameShows sh (shows_of S o)) where
  one-model : (head : List Text) (m : PModel) → head ≡ header_texts (header_with S o)
      → AreParts (taken_names S o) sh (plans S o) (finds S) (prepared S) head m → IsModelOf S o m
  one-model head m e a = record {
    fit = fit;
    head = a.head ∙ e ∙ ap (λ q. header_texts (header_with S q)) (sym (chosen-are S o typed fit));
    built = record {
      header = refl;
      declared = are-declared-same (taken_names S o) (plans S o) sh (shows_of S o) same (pure_model m).givens (pure_model m).finds a.declared;
      rules = are-rules-same (taken_names S o) (plans S o) sh (shows_of S o) same (finds S) (prepared S)
          (scope_of_tables (pure_model m).givens (pure_model m).finds) (pure_model m).goal (pure_model m).rules a.rules;
    };
  }

  each-model : (head : List Text) (q : Modelled) → head ≡ header_texts (header_with S o)
      → ModelComes (taken_names S o) sh (plans S o) (finds S) (prepared S) head q → IsModelled S o q
  each-model head (Modelled.Model m) e a = one-model head m e a
  each-model head (Modelled.Lacks p) e a = lacking-same (taken_names S o) (plans S o) sh (shows_of S o) same (finds S) (prepared S) p a
  each-model head Modelled.Misfit e a = absurd a

-- The answer, where it is made of the plans, of what stands behind the prepared statements, and of the header's lines.
pub is_modelled : {E : Type 0} (r : Result Modelled E) (S cs : List Stm) (o : Options) (taken : List Text) (sh : Shows) (Ps : List Plan)
    (head : List Text) → fault S ≡ None → cs ≡ prepared S → Fit S o → Ps ≡ plans S o → SameShows sh (shows_from Ps cs shows_nothing)
    → taken ≡ keys (names_of_plans Ps) → head ≡ header_texts (header_with S o) → IfOk r (ModelComes taken sh Ps (finds S) cs head)
    → IfOk r (IsModelled S o)
is_modelled (Err why) S cs o taken sh Ps head t p f q h k e a = tt
is_modelled (Ok m) S cs o taken sh Ps head t p f q h k e a =
    let same : SameShows sh (shows_of S o) =
    subst (λ c. SameShows sh (shows_from (plans S o) c shows_nothing)) p (subst (λ P. SameShows sh (shows_from P cs shows_nothing)) q h) in
    let named : taken ≡ taken_names S o = k ∙ ap (λ P. keys (names_of_plans P)) q in
    each-model S o t f sh same head m e
    (subst (λ c. ModelComes (taken_names S o) sh (plans S o) (finds S) c head m) p
    (subst (λ P. ModelComes (taken_names S o) sh P (finds S) cs head m) q
    (subst (λ n. ModelComes n sh Ps (finds S) cs head m) named a)))
