-- Domains of judged finds and givens, resolved, are domains of views.
use Rattle.std.specs.Prelude.{◌≡◌, ℕ, true, false, Some}
use Rattle.ess_semantics.specs.Values.{Text}
use Rattle.ess_semantics.specs.Order.{same_text}
use Rattle.ess_semantics.specs.Names.{Names, is_among}
use Rattle.ess_semantics.specs.Types.{Ty}
use Rattle.ess_semantics.specs.Trees.{Repr, Dom, Stm}
use Rattle.ess_semantics.specs.Domains.{Domain}
use Rattle.ess_semantics.specs.Membership.{no_negative_attribute}
use Rattle.ess_semantics.specs.Kinds.{fits}
use Rattle.ess_semantics.specs.Meaning.{Env, domain_of}
use Rattle.ess_semantics.specs.Scopes.{Scope, asking, every_dom, names_in_scope}
use Rattle.ess_semantics.specs.Resolving.{resolve_dom}
use Rattle.ess_semantics.specs.Typed.{Typed}
use Rattle.ess_semantics.specs.Judgements.{unknown_name, ill_typed, not_finite, not_enumerable, open_given, domain_in, found_domain, given_domain, meets}
use Rattle.ess_types_laws.specs.SoundParts.{relation_has_parts}
use Rattle.ess_repr_laws.specs.WellFormed.{Well}
use Rattle.ess_repr_structure_laws.specs.Laws.{NamesApart, JudgedView, ReadsNoTable}
use Rattle.ess_repr_structure_laws.specs.OrderlyDomains.{Orderly}

-- No reserved name is in scope.
abbrev pub AreReservedIn : (ℕ → Text) → Scope → Type 0
AreReservedIn q s = (l : ℕ) (a : Text) → is_among (names_in_scope s) a ≡ true → same_text (q l) a ≡ false

-- The statement's domain d and a representation that fits it, and what it denotes, resolved, under an env that gives names values of their
-- types: a domain without an attribute value below 0. No table is read in it, as in no text, and tuples of relation literals have parts.
pub record Denoted (env0 : Env) (s : Scope) (r : Repr) (d : Dom) (e : Domain) : Type 0 where
  pub fit : fits r d ≡ true
  pub held : Typed s.tys env0
  pub parts : every_dom (record asking { of_ex = relation_has_parts }) d s ≡ true
  pub plain_text : ReadsNoTable d
  pub denotes : domain_of (resolve_dom d s.tys) env0 ≡ Some e
  pub plain : no_negative_attribute e ≡ true

-- The resolved domain of a judged statement is well formed and orderly, takes the representations that it took, and has names in scope
-- alone. So that of a find or a given is a domain of views, with known slots and numbers that are numbers.
pub record JudgedDomainsAreViews : Type 0 where
  pub well : (w t : Stm) (s : Scope) (d : Dom) → domain_in t ≡ Some d → meets ill_typed w t s ≡ true → meets not_enumerable w t s ≡ true →
      Well (resolve_dom d s.tys) × Orderly (resolve_dom d s.tys)
  pub fit : (r : Repr) (d : Dom) (g : Names Ty) → fits r (resolve_dom d g) ≡ fits r d
  pub apart : (w t : Stm) (s : Scope) (d : Dom) (q : ℕ → Text) → domain_in t ≡ Some d → meets unknown_name w t s ≡ true →
      meets ill_typed w t s ≡ true → AreReservedIn q s → NamesApart q (resolve_dom d s.tys)
  pub found : (w t : Stm) (s : Scope) (d : Dom) (env0 : Env) (q : ℕ → Text) (r : Repr) (e : Domain) → found_domain t ≡ Some d →
      meets unknown_name w t s ≡ true → meets ill_typed w t s ≡ true → meets not_finite w t s ≡ true → meets not_enumerable w t s ≡ true →
      AreReservedIn q s → Denoted env0 s r d e → JudgedView env0 q r (resolve_dom d s.tys) e
  pub given : (w t : Stm) (s : Scope) (d : Dom) (env0 : Env) (q : ℕ → Text) (r : Repr) (e : Domain) → given_domain t ≡ Some d →
      meets unknown_name w t s ≡ true → meets ill_typed w t s ≡ true → meets not_enumerable w t s ≡ true → meets open_given w t s ≡ true →
      AreReservedIn q s → Denoted env0 s r d e → JudgedView env0 q r (resolve_dom d s.tys) e
