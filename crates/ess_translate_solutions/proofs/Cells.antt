-- What the reader's answer on a text of cells, the verdict on its tables and their values say of a translation.
use Rattle.std.proofs.Common.{◌≡◌, refl, sym, ap, ◌∙◌, subst, ℕ, true, List, ◌++◌, Option, Some, None, inl, inr}
use Rattle.std.specs.Prelude.{Ok, Err, codes}
use Rattle.ess_semantics.specs.Values.{Text, Value}
use Rattle.ess_semantics.specs.Names.{Names}
use Rattle.ess_semantics.specs.Trees.{Ex}
use Rattle.ess_semantics.specs.Tables.{Table}
use Rattle.ess_semantics.specs.Meaning.{TypeEntry}
use Rattle.ess_semantics.specs.Assignments.{Assignment, nothing_given, env_of}
use Rattle.ess_semantics.specs.ModelTrees.{Header, Model}
use Rattle.ess_semantics.specs.Plans.{values_stood_for}
use Rattle.ess_semantics.specs.Satisfaction.{Sat, model_verdict}
use Rattle.ess_semantics.specs.LargeModels.{model_is_large}
use Rattle.ess_grammar.specs.Words.{Token}
use Rattle.ess_grammar.specs.Tokens.{tokens}
use Rattle.ess_grammar.specs.Texts.{Reads}
use Rattle.ess_grammar.specs.CellTexts.{IsCells}
use Rattle.ess_grammar.specs.Models.{with_find}
use Rattle.ess_core.specs.declared.tables.Cells.{Cells}
use Rattle.ess_core.specs.TableViews.{pure_cells}
use Rattle.ess_parse.specs.declared.refusal.ReadNo.{ReadNo}
use Rattle.ess_parse.specs.Refusals.{refused_first}
use Rattle.ess_parse.specs.Readers.{IsRefusedFirst, IsUnread, IsPlaced}
use Rattle.ess_values_laws.specs.ItemNames.{item_name}
use Rattle.eprime_tree.specs.declared.models.PModel.{PModel}
use Rattle.eprime_tree.specs.Views.{scope_of_givens, pure_model}
use Rattle.eprime_read_cells_laws.proofs.Complete.{one-reading}
use Rattle.eprime_read_cells.specs.declared.cells.CellsNo.{CellsNo}
use Rattle.eprime_read_cells.specs.CellAnswers.{as_read, IsFitted}
use Rattle.eprime_verdicts.specs.declared.satisfying.PVerdict.{PVerdict}
use Rattle.eprime_verdicts.specs.ModelVerdicts.{IsVerdict}
use Rattle.ess_translate.specs.declared.refusal.Which.{Which}
use Rattle.ess_translate.specs.declared.refusal.TransNo.{TransNo}
use Rattle.ess_translate.specs.Texts.{Spells}
use Rattle.ess_translate.proofs.Spelled.{unrefused-limits}
use Rattle.ess_translate_solutions.specs.Refusals.{cells_no}
use Rattle.ess_translate_solutions.specs.CellFiles.{AreCells, IsSolved, IsNotSolved, IsWithout, first_without, there_of, value_lines}
use Rattle.ess_translate_solutions.proofs.SolutionLines.{all_are_there}

-- A text that the rules of cells derive, and that isn't refused before, spells what they derive.
spelled : (text : Text) (cs : Names Ex) → refused_first text ≡ None → Reads text (IsCells cs) → Spells IsCells text cs
spelled text cs e r = record { reads = r; limits = unrefused-limits text e; only = only }
  where
    only : (bs : Names Ex) → Reads text (IsCells bs) → bs ≡ cs
    only bs h =
        let k : Some h.0 ≡ Some r.0 = sym h.1 ∙ r.1 in
        let t : h.0 ≡ r.0 = cc in
        one-reading r.0 bs cs (subst (IsCells bs) t h.2) r.2

-- The tables that a text stands for are cells of the model.
pub cells_are : (m : PModel) (q c : Cells) (text : Text) → refused_first text ≡ None → IsFitted m.givens q m.finds text (Ok c) →
    AreCells (pure_model m) (pure_cells q) text (pure_cells c)
cells_are m q c text e f = record {
  literals = f.0;
  spells = spelled text f.0 e f.1;
  are = f.2 with_find (scope_of_givens m);
}

-- A text that stands for none.
pub cells_refused : (H : Header) (m : PModel) (p : Assignment) (q : Cells) (text : Text) (why : CellsNo) →
    IsRefusedFirst text (as_read (Err why)) → IsFitted m.givens q m.finds text (Err why) → IsUnread IsCells text (as_read (Err why)) →
    IsPlaced IsCells text (as_read (Err why)) → IsNotSolved H (pure_model m) p (pure_cells q) text (cells_no why)
cells_refused H m p q text (CellsNo.Read ReadNo.NoMemory) e f u l = tt
cells_refused H m p q text (CellsNo.Read (ReadNo.BadByte b)) e f u l = record { reason = tt; first = e; unread = u; placed = l }
cells_refused H m p q text (CellsNo.Read (ReadNo.WideNumber b)) e f u l = record { reason = tt; first = e; unread = u; placed = l }
cells_refused H m p q text (CellsNo.Read (ReadNo.Unsupported b)) e f u l = record { reason = tt; first = e; unread = u; placed = l }
cells_refused H m p q text (CellsNo.Read (ReadNo.TooDeep b)) e f u l = record { reason = tt; first = e; unread = u; placed = l }
cells_refused H m p q text (CellsNo.Read (ReadNo.Syntax b)) e f u l = record { reason = tt; first = e; unread = u; placed = l }
cells_refused H m p q text (CellsNo.Missing x) e f u l = (f.0, spelled text f.0 e f.1, f.2 with_find (scope_of_givens m))
cells_refused H m p q text (CellsNo.Extra x) e f u l = (f.0, spelled text f.0 e f.1, f.2 with_find (scope_of_givens m))
cells_refused H m p q text (CellsNo.OutOfDomain x) e f u l = (f.0, spelled text f.0 e f.1, f.2 with_find (scope_of_givens m))
cells_refused H m p q text CellsNo.Big e f u l = inr (inl (f.2 with_find (scope_of_givens m)))
cells_refused H m p q text CellsNo.NoMemory e f u l = tt

-- Cells under which a constraint is false.
pub false_refused : (H : Header) (E : Model) (p : Assignment) (q c : Names Table) (text : Text) (n : ℕ) → AreCells E q text c →
    IsVerdict (PVerdict.False n) (model_verdict E q c) → IsNotSolved H E p q text (TransNo.Unsatisfied (PVerdict.False n))
false_refused H E p q c text n a v = (a.literals, a.spells, (c, a.are, v))

-- Cells under which a number lies outside 64 bits.
pub large_refused : (H : Header) (E : Model) (p : Assignment) (q c : Names Table) (text : Text) → AreCells E q text c →
    model_is_large E q c ≡ true → IsNotSolved H E p q text TransNo.Big
large_refused H E p q c text a e = inr (inr (c, a, e))

-- A find without a value.
pub values_refused : (H : Header) (E : Model) (p : Assignment) (q c : Names Table) (text : Text) (os : Names (Option Value))
    (why : TransNo) → AreCells E q text c → Sat E q c → os ≡ values_stood_for H.statements H.reprs p c → IsWithout os why →
    IsNotSolved H E p q text why
values_refused H E p q c text os TransNo.HeaderBad a s e h = absurd h
values_refused H E p q c text os (TransNo.Read file why) a s e h = absurd h
values_refused H E p q c text os (TransNo.Typing why) a s e h = absurd h
values_refused H E p q c text os (TransNo.InvalidParameter why) a s e h = absurd h
values_refused H E p q c text os (TransNo.TooManyCells x k) a s e h = absurd h
values_refused H E p q c text os (TransNo.Unsatisfied v) a s e h = absurd h
values_refused H E p q c text os (TransNo.NotRepresented x) a s e h = (c, a, s, ap first_without (sym e) ∙ h)
values_refused H E p q c text os TransNo.Big a s e h = absurd h
values_refused H E p q c text os TransNo.NoMemory a s e h = tt

-- The text of the values of all finds is that of the solution.
pub solved : (H : Header) (E : Model) (p : Assignment) (q c : Names Table) (text bytes : Text) (os : Names (Option Value))
    (types : List TypeEntry) → AreCells E q text c → Sat E q c → os ≡ values_stood_for H.statements H.reprs p c → first_without os ≡ None →
    types ≡ (env_of H.statements p nothing_given).types →
    bytes ≡ codes "language Essence 1.3\n" ++ value_lines (item_name types) (there_of os) →
    IsSolved H E p q text bytes
solved H E p q c text bytes os types a s e f g h = record {
  c = c;
  vs = there_of os;
  cells = a;
  satisfy = s;
  stand = sym e ∙ all_are_there os f;
  written = h ∙ ap (λ ts. codes "language Essence 1.3\n" ++ value_lines (item_name ts) (there_of os)) g;
}
