-- Domains of judged finds and givens, resolved, are domains of views.
use Rattle.std.proofs.Common.{◌≡◌, refl, ◌∙◌, ℕ, true, ◌&&◌, Some}
use Rattle.std.specs.Prelude.{is_some}
use Rattle.ess_semantics.specs.Values.{Text}
use Rattle.ess_semantics.specs.Names.{is_among}
use Rattle.ess_semantics.specs.Trees.{Repr, Ex, Dom, Stm, given, given_enum, let_ex, let_dom, let_enum, let_unnamed, needs, find, such_that, minimise, maximise}
use Rattle.ess_semantics.specs.Domains.{Domain}
use Rattle.ess_semantics.specs.Typing.{type_of}
use Rattle.ess_semantics.specs.Meaning.{Env}
use Rattle.ess_semantics.specs.Scopes.{Scope, names_in_scope}
use Rattle.ess_semantics.specs.Resolving.{resolve_dom}
use Rattle.ess_semantics.specs.DomainJudgements.{needs_known_slots}
use Rattle.ess_semantics.specs.ExpressionJudgements.{ex_fits, part_fits}
use Rattle.ess_semantics.specs.Judgements.{unknown_name, ill_typed, not_enumerable, domain_in, found_domain, given_domain, meets, every_of_stm, place_fits, order_is_fit}
use Rattle.ess_semantics.proofs.Tests.{and-left}
use Rattle.ess_repr_laws.proofs.JudgedStatements.{stated-well, found-known, given-known}
use Rattle.conjure_laws.proofs.ResolvedDomains.{well-kept, known-kept}
use Rattle.conjure_settled_laws.proofs.KnownIndices.{known_parts, Covers}
use Rattle.conjure_settled_laws.proofs.KnownNames.{dom-uses}
use Rattle.ess_repr_structure_laws.specs.Laws.{NamesApart, JudgedView}
use Rattle.ess_repr_structure_laws.proofs.JudgedNumbers.{numbers-judged}
use Rattle.ess_repr_structure_laws.proofs.OrderlyJudged.{of-domain, stated-orderly}
use Rattle.ess_repr_structure_laws.proofs.SoundTogether.{typed}
use Rattle.ess_repr_judged_laws.specs.Laws.{AreReservedIn, Denoted, JudgedDomainsAreViews}
use Rattle.ess_repr_judged_laws.proofs.FreeUses.{dom-free}
use Rattle.ess_repr_judged_laws.proofs.ResolvedForms.{orderly-kept, fits-kept}

-- ---- names

typed-part : (x : Ex) (z : Scope) → ex_fits x z ≡ true → is_some (type_of x z.tys) ≡ true
typed-part x z h = and-left (is_some (type_of x z.tys)) (part_fits x z) h

-- The free names of the resolved domain are names in scope.
domain-apart : (w t : Stm) (s : Scope) (d : Dom) (q : ℕ → Text) → domain_in t ≡ Some d → meets unknown_name w t s ≡ true →
    meets ill_typed w t s ≡ true → AreReservedIn q s → NamesApart q (resolve_dom d s.tys)
domain-apart w t s d q e k h r = record {
  names = is_among (names_in_scope s);
  apart = r;
  free = dom-free (λ a. true) (resolve_dom d s.tys) (is_among (names_in_scope s))
      (dom-uses (λ a. true) typed typed-part d s s.depends_on_finds s.depends_on_finds (is_among (names_in_scope s)) covers
      (of-domain typed t s d e (and-left (every_of_stm typed t s) (place_fits t s)
      (and-left (every_of_stm typed t s && place_fits t s) (order_is_fit t s) h)))
      (of-domain known_parts t s d e k));
}
  where
    covers : Covers (λ a. true) s (is_among (names_in_scope s))
    covers = record { names = λ a i. i; types = λ a i. refl }

-- ---- statements

found-in : (t : Stm) (d : Dom) → found_domain t ≡ Some d → domain_in t ≡ Some d
found-in (find x c) d e = e
found-in (given x c) d e = cc
found-in (given_enum x) d e = cc
found-in (let_ex x c) d e = cc
found-in (let_dom x c) d e = cc
found-in (let_enum x ns) d e = cc
found-in (let_unnamed x c) d e = cc
found-in (needs c) d e = cc
found-in (such_that c) d e = cc
found-in (minimise c) d e = cc
found-in (maximise c) d e = cc

given-in : (t : Stm) (d : Dom) → given_domain t ≡ Some d → domain_in t ≡ Some d
given-in (given x c) d e = e
given-in (find x c) d e = cc
given-in (given_enum x) d e = cc
given-in (let_ex x c) d e = cc
given-in (let_dom x c) d e = cc
given-in (let_enum x ns) d e = cc
given-in (let_unnamed x c) d e = cc
given-in (needs c) d e = cc
given-in (such_that c) d e = cc
given-in (minimise c) d e = cc
given-in (maximise c) d e = cc

-- ---- views

seen-judged : (w t : Stm) (s : Scope) (d : Dom) (env0 : Env) (q : ℕ → Text) (r : Repr) (e : Domain) → domain_in t ≡ Some d →
    meets unknown_name w t s ≡ true → meets ill_typed w t s ≡ true → meets not_enumerable w t s ≡ true → needs_known_slots d ≡ true →
    AreReservedIn q s → Denoted env0 s r d e → JudgedView env0 q r (resolve_dom d s.tys) e
seen-judged w t s d env0 q r e i n h k f a v = record {
  orderly = orderly-kept s.tys d (stated-orderly w t s d i h k);
  known = known-kept d s.tys ∙ f;
  fit = fits-kept s.tys r d ∙ v.fit;
  denotes = v.denotes;
  plain = v.plain;
  numbers = numbers-judged w t s d env0 i h v.parts v.plain_text v.held;
  apart = domain-apart w t s d q i n h a;
}

pub domains-judged : JudgedDomainsAreViews
domains-judged = record {
  well = λ w t s d i h k. (well-kept d s.tys (stated-well w t s d i h k), orderly-kept s.tys d (stated-orderly w t s d i h k));
  fit = λ r d g. fits-kept g r d;
  apart = domain-apart;
  found = λ w t s d env0 q r e i n h f k a v.
      seen-judged w t s d env0 q r e (found-in t d i) n h k (found-known w t s d i f) a v;
  given = λ w t s d env0 q r e i n h k f a v.
      seen-judged w t s d env0 q r e (given-in t d i) n h k (given-known w t s d i f) a v;
}
