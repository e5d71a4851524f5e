-- Where statements end and begin.
use Rattle.std.specs.Prelude.{Bool, true, false, List, ◌∷◌, Option, Some, None}
use Rattle.ess_semantics.specs.Trees as pure
use Rattle.ess_semantics.specs.Trees.{given, find, let_dom}
use Rattle.ess_semantics.specs.Values.{Text}
use Rattle.ess_grammar.specs.Words.{Token, word}
use Rattle.ess_core.specs.StatementViews.{pure_stm}
use Rattle.ess_parse_laws.specs.Modes.{State}
use Rattle.ess_parse_laws.specs.StatementEnds.{begin_statement, declarations}
use Rattle.ess_parse_frames.specs.Rows.{back_names, back_stms}
use Rattle.ess_parse_frames.specs.Views.{is_given}
use Rattle.ess_parse_frames.specs.declared.statements.Ended.{Ended}
use Rattle.ess_parse_frames.specs.declared.statements.Wanting.{Wanting}
use Rattle.ess_parse_frames.specs.declared.statements.Wanting.TheVariants.{Names, Letting}

-- Behind a token that begins a statement, with these statements before it; nothing at any other token.
abbrev pub begin_with : Token → List pure.Stm → Option State
begin_with (word w) ss = begin_statement w ss
begin_with _ ss = None

-- A word begins the next statement, where the statements before it have ended; nothing else goes on.
abbrev pub begin_behind : Token → Option (List pure.Stm) → Option State
begin_behind t None = None
begin_behind t (Some ss) = begin_with t ss

-- One given, or one find, of a name.
abbrev pub one_declared : Bool → Text → pure.Dom → pure.Stm
one_declared true a d = given a d
one_declared false a d = find a d

-- The statements in reverse, with the one that has ended.
abbrev pub statements_of : Ended → List pure.Stm
statements_of e = pure_stm e.stm ∷ back_stms e.stms

-- The statements in reverse, with those that have this domain.
abbrev pub given_domain : pure.Dom → Wanting → List pure.Stm
given_domain d (Names g ns ss) = declarations (is_given g) (back_names ns) d (back_stms ss)
given_domain d (Letting a ss) = let_dom a d ∷ back_stms ss
