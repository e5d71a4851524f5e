-- Each of the findings answers what is asked of each part, in one scope for all: where a source depends on finds, the names
-- bound over it do.
use Rattle.std.proofs.Common.{◌≡◌, refl, sym, List}
use Rattle.ess_semantics.specs.Values.{Text}
use Rattle.ess_semantics.specs.Trees.{Ex, name_ex, Dom, name_dom}
use Rattle.ess_semantics.specs.Scopes.{Scope, Asked, asking}
use Rattle.ess_semantics.specs.Judgements.{name_is_known, domain_is_known, binds_new}
use Rattle.ess_types_judging_laws.specs.Judged.{known_names, new_names, fitting_types, finite_domains, enumerable_domains}
use Rattle.ess_types_judging_laws.proofs.Truths.{and_true}
use Rattle.ess_types_judging_laws.proofs.Alike.{depending, Alike, alike, dom-alike}
use Rattle.ess_types_judging_laws.proofs.Fixed.{no_known_finds, fixed-known, dom-known}
use Rattle.ess_types_judging_laws.proofs.Operands.{Answers}
use Rattle.ess_types_judging_laws.proofs.Gathering.{GeneratorAnswers}

-- Names are known, where names that depend on a find are known.
abbrev pub known_names_asking : Asked
known_names_asking = record asking { of_ex = name_is_known; of_dom = domain_is_known }

-- Patterns bind new names, where names that depend on a find are known.
abbrev pub new_names_asking : Asked
new_names_asking = record asking { of_pattern = binds_new }

name-alike : (e : Ex) (s : Scope) (ms ns : List Text) → name_is_known e (depending ms s) ≡ name_is_known e (depending ns s)
name-alike (name_ex a) s ms ns = refl
name-alike _ s ms ns = refl

domain-alike : (d : Dom) (s : Scope) (ms ns : List Text) → domain_is_known d (depending ms s) ≡ domain_is_known d (depending ns s)
domain-alike (name_dom a) s ms ns = refl
domain-alike _ s ms ns = refl

known-alike : Alike known_names known_names_asking
known-alike = record { exs = name-alike; doms = domain-alike; generators = λ d s ms ns. refl; patterns = λ p t s ms ns. refl }

new-alike : Alike new_names new_names_asking
new-alike =
    record { exs = λ e s ms ns. refl; doms = λ d s ms ns. refl; generators = λ d s ms ns. refl; patterns = λ p t s ms ns. refl }

-- ---- the answers

pub known-answers : Answers (λ f. f.known) known_names_asking
known-answers =
    record {
      well = refl;
      both = λ f g. refl;
      placed = λ c f. refl;
      exs = λ e s. alike known_names known_names_asking known-alike e s s.depends_on_finds s.depends_on_finds;
      doms = λ d s. dom-alike known_names known_names_asking known-alike d s s.depends_on_finds s.depends_on_finds;
    }

pub known-generators : GeneratorAnswers (λ f. f.known) known_names_asking
known-generators = record { overs = λ p d s. refl; patterns = λ p t s. refl; draws = λ e s. refl }

pub new-answers : Answers (λ f. f.new) new_names_asking
new-answers =
    record {
      well = refl;
      both = λ f g. refl;
      placed = λ c f. refl;
      exs = λ e s. alike new_names new_names_asking new-alike e s s.depends_on_finds s.depends_on_finds;
      doms = λ d s. dom-alike new_names new_names_asking new-alike d s s.depends_on_finds s.depends_on_finds;
    }

pub new-generators : GeneratorAnswers (λ f. f.new) new_names_asking
new-generators = record { overs = λ p d s. refl; patterns = λ p t s. refl; draws = λ e s. refl }

pub fits-answers : Answers (λ f. f.fits) fitting_types
fits-answers =
    record { well = refl; both = λ f g. refl; placed = λ c f. refl; exs = λ e s. refl; doms = λ d s. refl }

pub fits-generators : GeneratorAnswers (λ f. f.fits) fitting_types
fits-generators = record { overs = λ p d s. refl; patterns = λ p t s. refl; draws = λ e s. refl }

pub fixed-answers : Answers (λ f. f.fixed) no_known_finds
fixed-answers =
    record { well = refl; both = λ f g. refl; placed = λ c f. refl; exs = λ e s. fixed-known e s; doms = λ d s. dom-known d s }

pub fixed-generators : GeneratorAnswers (λ f. f.fixed) no_known_finds
fixed-generators = record { overs = λ p d s. refl; patterns = λ p t s. refl; draws = λ e s. refl }

pub finite-answers : Answers (λ f. f.finite) finite_domains
finite-answers =
    record { well = refl; both = λ f g. refl; placed = λ c f. refl; exs = λ e s. refl; doms = λ d s. refl }

pub finite-generators : GeneratorAnswers (λ f. f.finite) finite_domains
finite-generators =
    record { overs = λ p d s. sym (and_true _); patterns = λ p t s. refl; draws = λ e s. refl }

pub enumerable-answers : Answers (λ f. f.enumerable) enumerable_domains
enumerable-answers =
    record { well = refl; both = λ f g. refl; placed = λ c f. refl; exs = λ e s. refl; doms = λ d s. refl }

pub enumerable-generators : GeneratorAnswers (λ f. f.enumerable) enumerable_domains
enumerable-generators =
    record { overs = λ p d s. sym (and_true _); patterns = λ p t s. refl; draws = λ e s. refl }
