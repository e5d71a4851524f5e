-- The text of what satisfying tables stand for is read again as it, and is valid.
use Rattle.std.proofs.Common.{◌≡◌, refl, sym, ap, ◌∙◌, subst, ℕ, true, false, List, [], ◌∷◌, map, Option, Some, None}
use Rattle.std.specs.Prelude.{IsTrue}
use Rattle.ess_semantics.specs.Values.{Text, Value}
use Rattle.ess_semantics.specs.Names.{Names, keys}
use Rattle.ess_semantics.specs.Trees.{Stm, let_ex}
use Rattle.ess_semantics.specs.Contexts.{Each}
use Rattle.ess_semantics.specs.Judgements.{fault}
use Rattle.ess_semantics.specs.LargeSpecifications.{parameter_is_large}
use Rattle.ess_semantics.specs.Assignments.{Assignment}
use Rattle.ess_semantics.specs.Parameters.{Param, param_verdict}
use Rattle.ess_semantics.specs.Solutions.{Sol, valid, verdict}
use Rattle.ess_semantics.specs.Models.{Ordered}
use Rattle.ess_semantics.proofs.Verdicts.{Param-param_verdict, Sol-verdict}
use Rattle.ess_grammar.specs.Words.{Token}
use Rattle.ess_grammar.specs.Statements.{IsLettingsFile}
use Rattle.ess_grammar.specs.Texts.{Reads}
use Rattle.ess_grammar.specs.Readable.{is_name_token, ReadableStms}
use Rattle.ess_grammar.specs.ValueTexts.{literal_of}
use Rattle.ess_parse_laws.proofs.LettingsRuns.{one-file}
use Rattle.ess_print_laws.specs.Spelled.{is_spelled}
use Rattle.ess_letting_texts_laws.specs.LettingTexts.{lettings_text, lettings_of}
use Rattle.ess_letting_texts_laws.proofs.LettingTexts.{letting-texts-are-read}
use Rattle.ess_translate_laws.specs.FileAssignments.{solution_in, verdict_under, judged}
use Rattle.conjure_round_laws.specs.Stood.{stood}
use Rattle.conjure_round_laws.specs.LetLiterals.{literal_lettings, names_under, IsSpelledValue, IsReadAgain}
use Rattle.conjure_round_laws.specs.ComeBack.{IsValidFile}
use Rattle.conjure_round_laws.specs.Laws.{SatisfyingTablesComeBack}
use Rattle.conjure_round_laws.proofs.StoodSolutions.{satisfying-stand}
use Rattle.conjure_round_laws.proofs.SolutionsAgain.{solutions-are-read-again}
use Rattle.conjure_round_laws.proofs.ReadableReady.{readable-ready, find-tokens}

-- A text is at most one file of lettings.
one-text : (text : Text) (F G : List Stm) → Reads text (IsLettingsFile F) → Reads text (IsLettingsFile G) → G ≡ F
one-text text F G f g =
    let e : g.0 ≡ f.0 = same f.0 g.0 (sym g.1 ∙ f.1) in one-file (subst (IsLettingsFile G) e g.2) f.2
  where
    same : (us ts : List Token) → Some ts ≡ Some us → ts ≡ us
    same us ts h = cc

-- Values that are there, with their names.
abbrev all_values : Names Value → Names (Option Value)
all_values vs = map (λ v. (v.0, Some v.1)) vs

-- The values of entries that are spelled, under names that are name tokens.
record Printable (name_of : Text → ℕ → Text) (bs : Names (Option Value)) : Type 0 where
  vs : Names Value
  are : bs ≡ all_values vs
  spelled : Each vs (λ b. IsTrue (is_name_token b.0) × IsTrue (is_spelled name_of b.1))
  lettings : literal_lettings name_of bs ≡ lettings_of name_of vs

printable : (name_of : Text → ℕ → Text) (bs : Names (Option Value)) → Each bs (λ b. IsSpelledValue name_of b.1) →
    Each (keys bs) (λ x. is_name_token x ≡ true) → Printable name_of bs
printable name_of [] h k = record { vs = []; are = refl; spelled = tt; lettings = refl }
printable name_of ((x, None) ∷ bs) h k = absurd h.0
printable name_of ((x, Some v) ∷ bs) h k =
    let r = printable name_of bs h.1 k.1 in record {
      vs = (x, v) ∷ r.vs;
      are = ap (λ l. (x, Some v) ∷ l) r.are;
      spelled = ((k.0, h.0), r.spelled);
      lettings = ap (λ l. let_ex x (literal_of name_of v) ∷ l) r.lettings;
    }

module _ (S : List Stm) (p a : Assignment) (e : fault S ≡ None) (r : ReadableStms S) (P : Param S p) (l : parameter_is_large S p ≡ false)
    (s : Sol S p a) (o : Ordered S a) where
  abbrev N : Text → ℕ → Text
  N = names_under S p

  read : IsReadAgain S p a
  read = solutions-are-read-again S p a e r P l s o

  parts : Printable N a.vals
  parts = printable N a.vals read.spelled (subst (λ ks. Each ks (λ x. is_name_token x ≡ true)) (sym o.0) (find-tokens S r))

  again : (v : Printable N a.vals) → solution_in S p (lettings_of N v.vs) ≡ a
  again v = ap (solution_in S p) (sym v.lettings) ∙ read.again

  judged-valid : (v : Printable N a.vals) → verdict S p (solution_in S p (lettings_of N v.vs)) ≡ valid
  judged-valid v = ap (verdict S p) (again v) ∙ Sol-verdict S p a s

  valid-file : (v : Printable N a.vals) → IsValidFile S p (lettings_text N v.vs)
  valid-file v =
      let t = letting-texts-are-read N v.vs v.spelled in record {
        file = lettings_of N v.vs;
        reads = t;
        only = λ G g. one-text (lettings_text N v.vs) (lettings_of N v.vs) G t.0 g;
        solution = subst (Sol S p) (sym (again v)) s;
        judges = judged-valid v;
        files = λ F q. ap (λ z. verdict_under (param_verdict S z) (verdict S z (solution_in S z (lettings_of N v.vs)))) q
            ∙ ap (λ w. verdict_under w (verdict S p (solution_in S p (lettings_of N v.vs)))) (Param-param_verdict S p P)
            ∙ ap judged (judged-valid v);
      }

-- Tables that satisfy a model come back.
pub satisfying-come-back : SatisfyingTablesComeBack
satisfying-come-back S o H E p q c e r M P l g s =
    let h = satisfying-stand S o H E p q c (readable-ready S e r) M P g s in
    let a = stood S o p c in
    let k : Ordered S a = (h.stands.names, refl) in
    let v = parts S p a e r P l h.solution k in record {
      values = v.vs;
      stood_for = v.are;
      again = ap (λ b. b.vals) (again S p a e r P l h.solution k v);
      text = valid-file S p a e r P l h.solution k v;
    }
