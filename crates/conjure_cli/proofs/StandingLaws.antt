-- Where the work is done the model that is left stands for the specification.
use Rattle.std.proofs.Common.{◌≡◌, refl, sym, ◌∙◌, subst, inl, inr, ℕ, List, take, arith, Bool, Option, Some, None, option_map}
use Rattle.std.specs.Prelude.{IsSomeAnd, ◌+◌}
use Rattle.ess_io.specs.Trees.{Tree, file_at, with_file}
use Rattle.conjure_cli_laws.specs.Laws.{StandsForText}
use Rattle.conjure_laws.specs.ModelsOfSets.{no_options}
use Rattle.conjure_standing_laws.specs.Standing.{StandsForListed}
use Rattle.conjure_standing_laws.proofs.MemberTexts.{written-models-of-sets-stand}
use Rattle.conjure_standing_laws.proofs.MixedTexts.{written-mixed-models-stand}
use Rattle.conjure_cli.specs.Whole.{IsModelFor}
use Rattle.conjure_cli_laws.proofs.WrittenModels.{written-stands}
use Rattle.conjure_cli.specs.Seen.{FilesSeen, SinkSeen, ReadGives, limit}
use Rattle.conjure_cli.specs.Ending.{status_of, LeavesFiles}
use Rattle.conjure_cli.specs.Tasks.{Task, refine, judge, translate, test}
use Rattle.conjure_cli.specs.Runs.{Ends}
use Rattle.conjure_cli.specs.Standing.{IsProvedClass, ModelStands, ModelIsThere}
use Rattle.conjure_cli.proofs.JudgingLaws.{refusal_not_zero}
use Rattle.conjure_cli.specs.declared.ending.Ending.{Ending}
use Rattle.conjure_cli.specs.declared.ending.Ending.TheVariants.{Done, Usage, Missing, Unreadable, TooLong, NotYet, Unwritable, OutputFailed, NoMemory}
use Rattle.conjure_cli.specs.declared.outcome.Outcome.{Outcome}

-- what holds of a text that is read holds still where it follows
read_follows : (tree : Option Tree) (file : List ℕ) (P Q : List ℕ → Type 0) → ((text : List ℕ) → P text → Q text)
    → ReadGives tree file P → ReadGives tree file Q
read_follows None file P Q follows given = tt
read_follows (Some files) file P Q follows given = known (file_at files file) given
  where
    known : (whole : Option (List ℕ)) → IsSomeAnd (option_map (take (limit + 1)) whole) P
        → IsSomeAnd (option_map (take (limit + 1)) whole) Q
    known None given = absurd given
    known (Some bytes) given = follows (take (limit + 1) bytes) given

-- the ending of a run that is done leaves a model, which stands for a text of the small grammar
done_is_there : (ending : Ending) (list : Option (List ℕ)) (file place : List ℕ) (before after : FilesSeen) → status_of ending ≡ 0
    → LeavesFiles ending list file place before after → ModelIsThere (Some (refine file place list)) before after
done_is_there Done list file place before after is left = left
done_is_there Usage list file place before after is left = absurd (omega (arith, is))
done_is_there Missing list file place before after is left = absurd (omega (arith, is))
done_is_there Unreadable list file place before after is left = absurd (omega (arith, is))
done_is_there TooLong list file place before after is left = absurd (omega (arith, is))
done_is_there NotYet list file place before after is left = absurd (omega (arith, is))
done_is_there Unwritable list file place before after is left = absurd (omega (arith, is))
done_is_there OutputFailed list file place before after is left = absurd (omega (arith, is))
done_is_there NoMemory list file place before after is left = absurd (omega (arith, is))

-- What stands for a text of the small grammar stands for it without a list.
small_stands : (text model : List ℕ) → StandsForText text model → StandsForListed None text model
small_stands text model w = record {
  S = w.S;
  o = no_options;
  H = w.H;
  E = w.E;
  specification = w.specification;
  options = refl;
  is_model = w.is_model;
  models = w.models;
  exact = w.exact;
}

-- The model of a text of the classes stands for it.
text_stands : (list : Option (List ℕ)) (text model : List ℕ) → IsProvedClass list text → IsModelFor list text model
    → StandsForListed list text model
text_stands list text model class (inl small) =
    subst (λ l. StandsForListed l text model) (sym small.0) (small_stands text model (written-stands text model small.1))
text_stands list text model (inl small) (inr other) = absurd (other.0 small)
text_stands list text model (inr (inl mixed)) (inr other) = written-mixed-models-stand text list model other.1 mixed
text_stands list text model (inr (inr member)) (inr other) = written-models-of-sets-stand text list model other.1 member

-- So the model that is there stands.
there_stands : (list : Option (List ℕ)) (file place : List ℕ) (before after : FilesSeen)
    → ModelIsThere (Some (refine file place list)) before after
    → ModelStands (Some (refine file place list)) before after
there_stands list file place before after there =
    read_follows before.tree file (λ text. (model : List ℕ) × IsModelFor list text model × (after.tree ≡ with_file before.tree place model))
    (λ text. IsProvedClass list text → (model : List ℕ) × StandsForListed list text model × (after.tree ≡ with_file before.tree place model))
    (λ text g class. (g.0, text_stands list text g.0 class g.1, g.2)) there

-- So it is with each run that ends with status 0.
pub model_is_there : (outcome : Outcome) (status : ℕ) (task : Option Task) (takes : Bool) (before after : FilesSeen) (o o' e e' : SinkSeen)
    → Ends outcome status task takes before after o o' e e' → status ≡ 0 → ModelIsThere task before after
model_is_there outcome status None takes before after o o' e e' ends is = tt
model_is_there outcome status (Some (test n)) takes before after o o' e e' ends is = tt
model_is_there outcome status (Some (judge e p s)) takes before after o o' e1 e2 ends is = tt
model_is_there outcome status (Some (translate m p c place)) takes before after o o' e1 e2 ends is = tt
model_is_there (Outcome.Plain ending) status (Some (refine file place list)) takes before after o o' e e' ends is =
    done_is_there ending list file place before after (sym ends.status_is ∙ is) ends.files
model_is_there (Outcome.Judged v) status (Some (refine file place list)) takes before after o o' e e' ends is = absurd ends.err
model_is_there (Outcome.Refused why) status (Some (refine file place list)) takes before after o o' e e' ends is =
    absurd (refusal_not_zero why (sym ends.status_is ∙ is))
model_is_there (Outcome.BadItem k) status (Some (refine file place list)) takes before after o o' e e' ends is =
    let h : 3 ≡ 0 = sym ends.status_is ∙ is in absurd (omega (arith, h))

pub model_stands : (outcome : Outcome) (status : ℕ) (task : Option Task) (takes : Bool) (before after : FilesSeen) (o o' e e' : SinkSeen)
    → Ends outcome status task takes before after o o' e e' → status ≡ 0 → ModelStands task before after
model_stands outcome status None takes before after o o' e e' ends is = tt
model_stands outcome status (Some (test n)) takes before after o o' e e' ends is = tt
model_stands outcome status (Some (judge e p s)) takes before after o o' e1 e2 ends is = tt
model_stands outcome status (Some (translate m p c place)) takes before after o o' e1 e2 ends is = tt
model_stands outcome status (Some (refine file place list)) takes before after o o' e e' ends is =
    there_stands list file place before after (model_is_there outcome status (Some (refine file place list)) takes before after o o' e e'
    ends is)
