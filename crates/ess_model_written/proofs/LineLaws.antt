-- What a line more declares.
use Rattle.std.proofs.Common.{◌≡◌, ap, ◌∙◌, Bool, true, false, if◌then◌else◌, List, [], ◌∷◌, ◌++◌, map, filter, reverse}
use Rattle.std.proofs.lemmas.List.{reverse-append}
use Rattle.ess_semantics.specs.Meaning.{is_bool_dom}
use Rattle.ess_semantics.specs.Names.{Names}
use Rattle.ess_semantics.specs.Values.{Text}
use Rattle.ess_semantics.specs.DeclaredTables.{TableDecl}
use Rattle.ess_grammar.specs.Models.{Scope}
use Rattle.eprime_read_convert.specs.declared.lines.Line.{Line}
use Rattle.eprime_read_convert.specs.Lines.{scope_of}
use Rattle.ess_model_written.specs.DeclarationsWritten.{adding}

-- A scope of these parts.
abbrev scope : Names Bool → List Text → Scope
scope ts fs = record { tables = ts; finds = fs }

-- What lines declare, the newest first.
abbrev newest : List Line → Scope
newest ls = scope (map (λ l. (l.name, l.truth)) ls) (map (λ l. l.name) (filter (λ l. l.found) ls))

found-first : (l : Line) (ls : List Line) → l.found ≡ true
    → newest (l ∷ ls) ≡ scope ((l.name, l.truth) ∷ map (λ l. (l.name, l.truth)) ls) (l.name ∷ map (λ l. l.name) (filter (λ l. l.found) ls))
found-first l ls h =
    ap (λ b. scope ((l.name, l.truth) ∷ map (λ l. (l.name, l.truth)) ls)
    (map (λ l. l.name) (if b then l ∷ filter (λ l. l.found) ls else filter (λ l. l.found) ls))) h

given-first : (l : Line) (ls : List Line) → l.found ≡ false
    → newest (l ∷ ls) ≡ scope ((l.name, l.truth) ∷ map (λ l. (l.name, l.truth)) ls) (map (λ l. l.name) (filter (λ l. l.found) ls))
given-first l ls h =
    ap (λ b. scope ((l.name, l.truth) ∷ map (λ l. (l.name, l.truth)) ls)
    (map (λ l. l.name) (if b then l ∷ filter (λ l. l.found) ls else filter (λ l. l.found) ls))) h

first-added : (b : Bool) (l : Line) (ls : List Line) (u : TableDecl) → l.name ≡ u.name → l.truth ≡ is_bool_dom u.cell → l.found ≡ b
    → newest (l ∷ ls) ≡ adding b (newest ls) u
first-added true l ls u n t f =
    found-first l ls f
    ∙ ap (λ a. scope ((a, l.truth) ∷ map (λ l. (l.name, l.truth)) ls) (a ∷ map (λ l. l.name) (filter (λ l. l.found) ls))) n
    ∙ ap (λ c. scope ((u.name, c) ∷ map (λ l. (l.name, l.truth)) ls) (u.name ∷ map (λ l. l.name) (filter (λ l. l.found) ls))) t
first-added false l ls u n t f =
    given-first l ls f
    ∙ ap (λ a. scope ((a, l.truth) ∷ map (λ l. (l.name, l.truth)) ls) (map (λ l. l.name) (filter (λ l. l.found) ls))) n
    ∙ ap (λ c. scope ((u.name, c) ∷ map (λ l. (l.name, l.truth)) ls) (map (λ l. l.name) (filter (λ l. l.found) ls))) t

-- A line for a declaration declares what it does.
pub line_added : (b : Bool) (ls : List Line) (l : Line) (u : TableDecl) → l.name ≡ u.name → l.truth ≡ is_bool_dom u.cell → l.found ≡ b
    → scope_of (ls ++ l ∷ []) ≡ adding b (scope_of ls) u
line_added b ls l u n t f = ap newest (reverse-append ls (l ∷ [])) ∙ first-added b l (reverse ls) u n t f
