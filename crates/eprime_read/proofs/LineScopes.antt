-- What lines declare with one line more.
use Rattle.std.proofs.Common.{◌≡◌, refl, ap, ◌∙◌, Bool, true, false, cond, List, [], ◌∷◌, ◌++◌, map, filter, reverse}
use Rattle.std.proofs.lemmas.List.{reverse-append}
use Rattle.ess_semantics.specs.Meaning.{is_bool_dom}
use Rattle.ess_semantics.specs.DeclaredTables.{TableDecl}
use Rattle.ess_grammar.specs.Models.{Scope, with_given, with_find}
use Rattle.eprime_read_convert.specs.declared.lines.Line.{Line}
use Rattle.eprime_read_convert.specs.Lines.{scope_of}

-- The scope of lines, the newest first.
abbrev scope_back : List Line → Scope
scope_back ls = record { tables = map (λ l. (l.name, l.truth)) ls; finds = map (λ l. l.name) (filter (λ l. l.found) ls) }

given-line : (l : Line) (ls : List Line) (t : TableDecl) (f : Bool) → l.name ≡ t.name → l.truth ≡ is_bool_dom t.cell → l.found ≡ f → f ≡ false → scope_back (l ∷ ls) ≡ with_given (scope_back ls) t
given-line l ls t true n b h k = cc
given-line l ls t false n b h k =
    ap (λ a. record { tables = (a, l.truth) ∷ map (λ (l : Line). (l.name, l.truth)) ls; finds = map (λ (l : Line). l.name) (filter (λ (l : Line). l.found) (l ∷ ls)) }) n
    ∙ ap (λ c. record { tables = (t.name, c) ∷ map (λ (l : Line). (l.name, l.truth)) ls; finds = map (λ (l : Line). l.name) (filter (λ (l : Line). l.found) (l ∷ ls)) }) b
    ∙ ap (λ c. record { tables = (t.name, is_bool_dom t.cell) ∷ map (λ (l : Line). (l.name, l.truth)) ls; finds = map (λ (l : Line). l.name) (cond c (l ∷ filter (λ (l : Line). l.found) ls) (filter (λ (l : Line). l.found) ls)) }) h

find-line : (l : Line) (ls : List Line) (t : TableDecl) (f : Bool) → l.name ≡ t.name → l.truth ≡ is_bool_dom t.cell → l.found ≡ f → f ≡ true → scope_back (l ∷ ls) ≡ with_find (scope_back ls) t
find-line l ls t false n b h k = cc
find-line l ls t true n b h k =
    ap (λ c. record { tables = (l.name, l.truth) ∷ map (λ (l : Line). (l.name, l.truth)) ls; finds = map (λ (l : Line). l.name) (cond c (l ∷ filter (λ (l : Line). l.found) ls) (filter (λ (l : Line). l.found) ls)) }) h
    ∙ ap (λ a. record { tables = (a, l.truth) ∷ map (λ (l : Line). (l.name, l.truth)) ls; finds = a ∷ map (λ (l : Line). l.name) (filter (λ (l : Line). l.found) ls) }) n
    ∙ ap (λ c. record { tables = (t.name, c) ∷ map (λ (l : Line). (l.name, l.truth)) ls; finds = t.name ∷ map (λ (l : Line). l.name) (filter (λ (l : Line). l.found) ls) }) b

reverse-more : (ls : List Line) (l : Line) → reverse (ls ++ l ∷ []) ≡ l ∷ reverse ls
reverse-more ls l = reverse-append ls (l ∷ [])

-- With a given more.
pub scope_given : (ls new : List Line) (l : Line) (t : TableDecl) → new ≡ ls ++ l ∷ [] → l.name ≡ t.name → l.truth ≡ is_bool_dom t.cell → l.found ≡ false → scope_of new ≡ with_given (scope_of ls) t
scope_given ls new l t e n b h = ap scope_of e ∙ ap scope_back (reverse-more ls l) ∙ given-line l (reverse ls) t false n b h refl

-- With a find more.
pub scope_find : (ls new : List Line) (l : Line) (t : TableDecl) → new ≡ ls ++ l ∷ [] → l.name ≡ t.name → l.truth ≡ is_bool_dom t.cell → l.found ≡ true → scope_of new ≡ with_find (scope_of ls) t
scope_find ls new l t e n b h = ap scope_of e ∙ ap scope_back (reverse-more ls l) ∙ find-line l (reverse ls) t true n b h refl
