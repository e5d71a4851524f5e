-- Views of nested sets are views of judged domains: their numbers are written, and no name is in their domains.
use Rattle.std.proofs.Common.{◌≡◌, refl, sym, ap, subst, ◌∙◌, ℕ, Bool, true, false, List, [], ◌∷◌, ◌++◌, ℤ, pos, Option, Some, None, option_map, ◌<◌}
use Rattle.std.specs.List.{list_any}
use Rattle.ess_semantics.specs.Lists.{and_then}
use Rattle.ess_semantics.specs.Values.{Text, number}
use Rattle.ess_semantics.specs.Order.{same_text}
use Rattle.ess_semantics.specs.Names.{look}
use Rattle.ess_semantics.specs.Kinds.{fits}
use Rattle.ess_semantics.specs.Tables.{Table, Tables}
use Rattle.ess_semantics.specs.Trees.{Repr, Mark, Ex, Exs, Dom}
use Rattle.ess_semantics.specs.FreeNames.{FreeNamesAreExs, FreeNamesAreDom}
use Rattle.ess_semantics.specs.Occurrences.{parts_of_all, parts_of_dom, is_cell_or_view}
use Rattle.ess_semantics.specs.Meaning.{Env, tables_in}
use Rattle.ess_semantics.specs.Totality.{TotalAll, TotalDom}
use Rattle.ess_repr_laws.specs.Laws.{Fitting}
use Rattle.ess_repr_laws.specs.StructureMeaning.{AllNumbers, FoundBy}
use Rattle.ess_repr_structure_laws.specs.Laws.{NamesApart, JudgedView, DenotedView, ReadsNoTable}
use Rattle.ess_repr_structure_laws.specs.DomainNumbers.{NumbersIn}
use Rattle.ess_repr_structure_laws.specs.OrderlyDomains.{Orderly}
use Rattle.ess_nested_laws.proofs.NestedForms.{Sizes, no_sizes, one_size, WrittenAtom, written_truths, written_numbers, NestedSet, of_atoms, of_sets}
use Rattle.ess_nested_laws.proofs.NestedDenoted.{written_domain, nested-denoted, nested-natural, nested-fitting}

-- ---- numbers

number-is : (n z : ℤ) → Some n ≡ Some z → Some (number n) ≡ Some (number z)
number-is n z h = cc

sizes-numbers : {ms : List Mark} {es : Exs} (env : Env) → Sizes ms es → AllNumbers es env
sizes-numbers env no_sizes = tt
sizes-numbers env (one_size {n = n} q s) = (number-is (pos n), sizes-numbers env s)

atom-numbers : {d : Dom} (env : Env) → WrittenAtom d → NumbersIn d env
atom-numbers env written_truths = tt
atom-numbers env (written_numbers {a = a} {b = b}) = (number-is (pos a), (number-is (pos b), tt))

nested-numbers : {d : Dom} (env : Env) → NestedSet d → NumbersIn d env
nested-numbers env (of_atoms s a) = (sizes-numbers env s, atom-numbers env a)
nested-numbers env (of_sets s n) = (sizes-numbers env s, nested-numbers env n)

sizes-total : {ms : List Mark} {es : Exs} (env : Env) → Sizes ms es → TotalAll es env
sizes-total env no_sizes = tt
sizes-total env (one_size q s) = (tt, sizes-total env s)

atom-total : {d : Dom} (env : Env) → WrittenAtom d → TotalDom d env
atom-total env written_truths = tt
atom-total env written_numbers = (tt, (tt, tt))

-- They are total.
pub nested-total : {d : Dom} (env : Env) → NestedSet d → TotalDom d env
nested-total env (of_atoms s a) = (sizes-total env s, atom-total env a)
nested-total env (of_sets s n) = (sizes-total env s, nested-total env n)

-- ---- names and tables

sizes-free : {ms : List Mark} {es : Exs} (u : Text → Bool) → Sizes ms es → FreeNamesAreExs u es
sizes-free u no_sizes = tt
sizes-free u (one_size q s) = (tt, sizes-free u s)

atom-free : {d : Dom} (u : Text → Bool) → WrittenAtom d → FreeNamesAreDom u d
atom-free u written_truths = tt
atom-free u written_numbers = (tt, (tt, tt))

nested-free : {d : Dom} (u : Text → Bool) → NestedSet d → FreeNamesAreDom u d
nested-free u (of_atoms s a) = (sizes-free u s, atom-free u a)
nested-free u (of_sets s n) = (sizes-free u s, nested-free u n)

sizes-plain : {ms : List Mark} {es : Exs} (xs : List Ex) → Sizes ms es → list_any is_cell_or_view xs ≡ false →
    list_any is_cell_or_view (parts_of_all es ++ xs) ≡ false
sizes-plain xs no_sizes h = h
sizes-plain xs (one_size q s) h = sizes-plain xs s h

atom-plain : {d : Dom} → WrittenAtom d → ReadsNoTable d
atom-plain written_truths = refl
atom-plain written_numbers = refl

-- No table is read in the domain.
pub nested-plain : {d : Dom} → NestedSet d → ReadsNoTable d
nested-plain (of_atoms {d = d} s a) = sizes-plain (parts_of_dom d) s (atom-plain a)
nested-plain (of_sets {d = d} s n) = sizes-plain (parts_of_dom d) s (nested-plain n)

nested-apart : {d : Dom} (q : ℕ → Text) → NestedSet d → NamesApart q d
nested-apart q n = record { names = λ a. false; apart = λ l a h. cc; free = nested-free (λ a. false) n }

-- ---- views

-- A view of nested sets is one of a judged domain.
pub nested-view : {d : Dom} (env : Env) (q : ℕ → Text) (r : Repr) → NestedSet d → Orderly d → fits r d ≡ true →
    JudgedView env q r d (written_domain d)
nested-view env q r n o h =
    let f : Fitting r _ = nested-fitting n r h in
    record {
      orderly = o;
      known = f.known;
      fit = h;
      denotes = nested-denoted n env;
      plain = nested-natural n;
      numbers = nested-numbers env n;
      apart = nested-apart q n;
    }

pub nested-denoted-view : {d : Dom} (env : Env) (q : ℕ → Text) → NestedSet d → DenotedView env q d (written_domain d)
nested-denoted-view env q n = record { denotes = nested-denoted n env; plain = nested-natural n; apart = nested-apart q n }

-- ---- tables

no-tables : (t : Table) (ts : Tables) → Some [] ≡ Some (t ∷ ts) → ⊥
no-tables t ts h = cc

none-there : (us : Tables) → None ≡ Some us → ⊥
none-there us h = cc

-- Tables that are there by their names are found by these.
pub tables-found : (env : Env) (q : ℕ → Text) (apart : (m l : ℕ) → l < m → same_text (q m) (q l) ≡ false) (ns : List Text) (ts : Tables) →
    tables_in env.cells ns ≡ Some ts → FoundBy env q apart ns ts
tables-found env q apart [] [] h = tt
tables-found env q apart [] (t ∷ ts) h = absurd (no-tables t ts h)
tables-found env q apart (n ∷ ns) ts h =
    go (look env.cells n) refl (tables_in env.cells ns) refl ts h (λ us. tables-found env q apart ns us)
  where
    go : (o : Option Table) → look env.cells n ≡ o → (p : Option Tables) → tables_in env.cells ns ≡ p → (us : Tables) →
        and_then (look env.cells n) (λ x. option_map (λ xs. x ∷ xs) (tables_in env.cells ns)) ≡ Some us →
        ((vs : Tables) → tables_in env.cells ns ≡ Some vs → FoundBy env q apart ns vs) → FoundBy env q apart (n ∷ ns) us
    go None e p f us k i =
        absurd (none-there us (sym (ap (λ o. and_then o (λ x. option_map (λ xs. x ∷ xs) (tables_in env.cells ns))) e) ∙ k))
    go (Some x) e None f us k i =
        absurd (none-there us (sym (ap (λ o. and_then o (λ x. option_map (λ xs. x ∷ xs) (tables_in env.cells ns))) e
        ∙ ap (option_map (λ xs. x ∷ xs)) f) ∙ k))
    go (Some x) e (Some xs) f us k i =
        let z : Some (x ∷ xs) ≡ Some us = sym (ap (λ o. and_then o (λ x. option_map (λ xs. x ∷ xs) (tables_in env.cells ns))) e
        ∙ ap (option_map (λ xs. x ∷ xs)) f) ∙ k in
        let w : x ∷ xs ≡ us = cc in
        subst (λ vs. FoundBy env q apart (n ∷ ns) vs) w (e, i xs f)
