-- Where the machine stops no model goes on, and before words that begin statements stands a whole model.
use Rattle.std.proofs.Common.{◌≡◌, refl, sym, ap, ◌∙◌, true, false, List, [], ◌∷◌, ◌++◌, Option, Some, None}
use Rattle.ess_semantics.specs.ModelTrees.{Model}
use Rattle.ess_grammar.specs.Words.{Token, Word, word, language_word}
use Rattle.ess_grammar.specs.ModelTexts.{IsModel}
use Rattle.ess_parse_laws.specs.StatementEnds.{begins_statement}
use Rattle.ess_parse_laws.specs.Machine.{finish}
use Rattle.eprime_read_laws.proofs.Complete.{complete-model}
use Rattle.eprime_read_laws.proofs.Tails.{sound-model}
use Rattle.eprime_read_laws.specs.ModelMachine.{Stage, at_begin, behind_language, behind_prime, behind_first_number, behind_dot, in_part, part_ended, begin_part, part_step, model_step, model_finish, then_model, model_run, then_stage, stage_after}

-- ---- where the machine stops

stopped-at : (ts us : List Token) (r : Option Stage) → ((s : Stage) → stage_after ts s ≡ None → model_run (ts ++ us) s ≡ None) → then_stage r (stage_after ts) ≡ None → then_model r (model_run (ts ++ us)) ≡ None
stopped-at ts us None k h = refl
stopped-at ts us (Some s) k h = k s h

stopped : (ts us : List Token) (s : Stage) → stage_after ts s ≡ None → model_run (ts ++ us) s ≡ None
stopped [] us s h = cc
stopped (t ∷ ts) us s h = stopped-at ts us (model_step t s) (λ s k. stopped ts us s k) h

-- No model begins with tokens at which the machine has stopped.
pub no-model : (ts us : List Token) (m : Model) → stage_after ts at_begin ≡ None → IsModel m (ts ++ us) → ⊥
no-model ts us m h d = let k = stopped ts us at_begin h in let c = complete-model (ts ++ us) m d in cc

-- ---- before words that begin statements

-- The stage behind the first of two lists, from which the second goes on to the stage q.
record Between (ts us : List Token) (s q : Stage) : Type 0 where
  stage : Stage
  before : stage_after ts s ≡ Some stage
  behind : stage_after us stage ≡ Some q

then-reaches : (ts us : List Token) (q : Stage) (r : Option Stage) → then_stage r (stage_after (ts ++ us)) ≡ Some q → ((s : Stage) → stage_after (ts ++ us) s ≡ Some q → Between ts us s q) →
    (p : Stage) × ((then_stage r (stage_after ts) ≡ Some p) × (stage_after us p ≡ Some q))
then-reaches ts us q None h f = cc
then-reaches ts us q (Some s) h f = let b = f s h in (b.stage, (b.before, b.behind))

between : (ts us : List Token) (s q : Stage) → stage_after (ts ++ us) s ≡ Some q → Between ts us s q
between [] us s q h = record { stage = s; before = refl; behind = h }
between (t ∷ ts) us s q h = let b = then-reaches ts us q (model_step t s) h (λ s k. between ts us s q k) in record { stage = b.0; before = (b.1).0; behind = (b.1).1 }

from-some : {s q : Stage} → Some s ≡ Some q → s ≡ q
from-some h = cc

then-ends : (ts : List Token) (q : Stage) (r : Option Stage) → then_stage r (stage_after ts) ≡ Some q → ((s : Stage) → stage_after ts s ≡ Some q → model_run ts s ≡ model_finish q) → then_model r (model_run ts) ≡ model_finish q
then-ends ts q None h f = cc
then-ends ts q (Some s) h f = f s h

-- A run answers what stands at its end.
run-ends : (ts : List Token) (s q : Stage) → stage_after ts s ≡ Some q → model_run ts s ≡ model_finish q
run-ends [] s q h = ap model_finish (from-some h)
run-ends (t ∷ ts) s q h = then-ends ts q (model_step t s) h (λ s k. run-ends ts s q k)

part-there : (w x : Word) (o : Option Model) (us : List Token) (q : Stage) → then_stage (begin_part x w o) (stage_after us) ≡ Some q → (m : Model) × (o ≡ Some m)
part-there w x None us q h = cc
part-there w x (Some m) us q h = (m, refl)

no-first-word : (w : Word) (us : List Token) (q : Stage) → begins_statement w ≡ true → then_stage (model_step (word w) at_begin) (stage_after us) ≡ Some q → ⊥
no-first-word language_word us q b h = cc
no-first-word _ us q b h = cc

-- Where the machine goes over such a word, a whole model is read before it.
whole-before : (w : Word) (us : List Token) (s q : Stage) → begins_statement w ≡ true → stage_after (word w ∷ us) s ≡ Some q → (m : Model) × (model_finish s ≡ Some m)
whole-before w us at_begin q b h = absurd (no-first-word w us q b h)
whole-before w us behind_language q b h = cc
whole-before w us behind_prime q b h = cc
whole-before w us behind_first_number q b h = cc
whole-before w us behind_dot q b h = cc
whole-before w us (in_part x m i fs) q b h =
    part-there w x (part_ended x m (finish i fs)) us q
    (sym (ap (λ c. then_stage (part_step (word w) (elim c as (λ c. Option Word) [ true ↦ Some w | false ↦ None ]) x m i fs) (stage_after us)) b) ∙ h)

-- Before a word that begins a statement, where the machine has gone past it, stands a whole model.
pub whole-model : (ts us : List Token) (w : Word) (q : Stage) → begins_statement w ≡ true → stage_after (ts ++ word w ∷ us) at_begin ≡ Some q → (m : Model) × IsModel m ts
whole-model ts us w q b h =
    let k = between ts (word w ∷ us) at_begin q h in
    let m = whole-before w us k.stage q b k.behind in
    (m.0, sound-model ts m.0 (run-ends ts at_begin k.stage k.before ∙ m.1))
