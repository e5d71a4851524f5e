-- The parser inside a part: what it has read is of tokens that are fit, and so what it answers is readable.
use Rattle.std.proofs.Common.{◌≡◌, refl, sym, ap, ◌∙◌, subst, true, List, [], ◌∷◌, ◌++◌, Option, Some, None, IsTrue}
use Rattle.ess_semantics.specs.Trees.{Stm}
use Rattle.ess_grammar.specs.Words.{Token, number, name, prime_word, word, operator, function, symbol, Word}
use Rattle.ess_grammar.specs.Readable.{ReadableStms}
use Rattle.ess_grammar.proofs.ReadableTrees.{is_proper, Proper}
use Rattle.ess_grammar.proofs.ReadableStatements.{specification-readable}
use Rattle.ess_parse_laws.specs.Modes.{State, Answer, specification_answer, nothing_read}
use Rattle.ess_parse_laws.specs.StatementEnds.{begin_statement}
use Rattle.ess_parse_laws.specs.Machine.{step, finish, then_state_after, state_after, read_specification}
use Rattle.ess_parse_laws.proofs.Sound.{IsSound, sound-specification}
use Rattle.ess_parse_laws.proofs.WholeTexts.{run-ends, state-goes-on}
use Rattle.ess_semantics.specs.ModelTrees.{Model}
use Rattle.ess_semantics.specs.Lists.{and_then}
use Rattle.ess_parse_laws.specs.Modes.{expression_answer, domain_answer}
use Rattle.ess_parse.specs.Machines.{statements_of}
use Rattle.ess_parse.proofs.StateLaws.{is-specification}
use Rattle.eprime_read_laws.specs.ModelMachine.{with_part, part_ended, may_follow}
use Rattle.eprime_tree.specs.declared.models.PModel.{PModel}
use Rattle.eprime_read.specs.declared.openings.Opening.{Opening}
use Rattle.eprime_read.specs.Openings.{word_of}
use Rattle.eprime_read.specs.Drafts.{Fits, is_fit_token, AreFit, HasRead}

fit-proper : (t : Token) → is_fit_token t ≡ is_proper t
fit-proper (number n) = refl
fit-proper (name a) = refl
fit-proper prime_word = refl
fit-proper (word w) = refl
fit-proper (operator o) = refl
fit-proper (function f) = refl
fit-proper (symbol c) = refl

pub all_proper : (ts : List Token) → AreFit ts → Proper ts
all_proper [] h = tt
all_proper (t ∷ ts) h = (sym (fit-proper t) ∙ h.0, all_proper ts h.1)

pub all_fit : (ts : List Token) → Proper ts → AreFit ts
all_fit [] h = tt
all_fit (t ∷ ts) h = (fit-proper t ∙ h.0, all_fit ts h.1)

fit-more : (ts : List Token) (t : Token) → AreFit ts → IsTrue (is_fit_token t) → AreFit (ts ++ t ∷ [])
fit-more [] t h k = (k, tt)
fit-more (u ∷ ts) t h k = (h.0, fit-more ts t h.1 k)

-- One token more.
pub has_read_more : (s q : State) (t : Token) → HasRead s → IsTrue (is_fit_token t) → step t s.mode s.frames ≡ Some q → HasRead q
has_read_more s q t h f e =
    record {
      tokens = h.tokens ++ t ∷ [];
      fit = fit-more h.tokens t h.fit f;
      reached = state-goes-on h.tokens (t ∷ []) nothing_read [] s h.reached ∙ ap (λ o. then_state_after o (state_after [])) e;
    }

-- The first token.
pub has_read_word : (w : Opening) (t : Token) (s q : State) → s ≡ record { mode = nothing_read; frames = [] } → t ≡ word (word_of w) → Some q ≡ step t s.mode s.frames → HasRead q
has_read_word w t s q i e h =
    record {
      tokens = word (word_of w) ∷ [];
      fit = (refl, tt);
      reached = ap (λ o. then_state_after o (state_after [])) (ap (λ u. step u nothing_read []) (sym e) ∙ ap (λ r. step t r.mode r.frames) (sym i) ∙ sym h);
    }

-- The state behind it is the one where the statement begins.
pub begins_so : (w : Opening) (t : Token) (s : State) → s ≡ record { mode = nothing_read; frames = [] } → t ≡ word (word_of w) → begin_statement (word_of w) [] ≡ step t s.mode s.frames
begins_so w t s i e = first w ∙ ap (λ u. step u nothing_read []) (sym e) ∙ ap (λ r. step t r.mode r.frames) (sym i)
  where
    first : (w : Opening) → begin_statement (word_of w) [] ≡ step (word (word_of w)) nothing_read []
    first Opening.Given = refl
    first Opening.Find = refl
    first Opening.Letting = refl
    first Opening.Where = refl
    first Opening.Such = refl
    first Opening.Minimising = refl
    first Opening.Maximising = refl

-- The statements that are answered are readable.
pub read_readable : (s : State) (ss : List Stm) → HasRead s → finish s.mode s.frames ≡ Some (specification_answer ss) → ReadableStms ss
read_readable s ss h e =
    let r : read_specification h.tokens ≡ Some (specification_answer ss) = run-ends h.tokens nothing_read [] s h.reached ∙ e in
    specification-readable (subst (λ o. IsSound h.tokens o) r (sound-specification h.tokens)) (all_proper h.tokens h.fit)

pub end_readable : (s : State) (o : Option Answer) (ss : List Stm) → HasRead s → finish s.mode s.frames ≡ o → statements_of o ≡ Some ss → ReadableStms ss
end_readable s o ss h e k = read_readable s ss h (e ∙ is-specification o ss k)

-- A part by its statements.
pub part_by : (x : Word) (m : Model) (o : Option Answer) → part_ended x m o ≡ and_then (statements_of o) (with_part x m)
part_by x m None = refl
part_by x m (Some (expression_answer e)) = refl
part_by x m (Some (domain_answer d)) = refl
part_by x m (Some (specification_answer ss)) = refl

-- What fits behind a part.
pub fits_behind : (x w : Opening) (m : PModel) → may_follow (word_of x) (word_of w) ≡ true → Fits (word_of x) m → Fits (word_of w) m
fits_behind Opening.Given Opening.Given m h f = f
fits_behind Opening.Given Opening.Find m h f = (f.1, f.2)
fits_behind Opening.Given Opening.Letting m h f = tt
fits_behind Opening.Given Opening.Where m h f = tt
fits_behind Opening.Given Opening.Such m h f = tt
fits_behind Opening.Given Opening.Minimising m h f = tt
fits_behind Opening.Given Opening.Maximising m h f = tt
fits_behind Opening.Find Opening.Given m h f = cc
fits_behind Opening.Find Opening.Find m h f = f
fits_behind Opening.Find Opening.Letting m h f = tt
fits_behind Opening.Find Opening.Where m h f = tt
fits_behind Opening.Find Opening.Such m h f = tt
fits_behind Opening.Find Opening.Minimising m h f = tt
fits_behind Opening.Find Opening.Maximising m h f = tt
fits_behind Opening.Minimising Opening.Given m h f = cc
fits_behind Opening.Minimising Opening.Find m h f = cc
fits_behind Opening.Minimising Opening.Such m h f = tt
fits_behind Opening.Minimising _ m h f = tt
fits_behind Opening.Maximising Opening.Given m h f = cc
fits_behind Opening.Maximising Opening.Find m h f = cc
fits_behind Opening.Maximising _ m h f = tt
fits_behind Opening.Letting Opening.Given m h f = cc
fits_behind Opening.Letting Opening.Find m h f = cc
fits_behind Opening.Letting _ m h f = tt
fits_behind Opening.Where Opening.Given m h f = cc
fits_behind Opening.Where Opening.Find m h f = cc
fits_behind Opening.Where _ m h f = tt
fits_behind Opening.Such Opening.Given m h f = cc
fits_behind Opening.Such Opening.Find m h f = cc
fits_behind Opening.Such _ m h f = tt
