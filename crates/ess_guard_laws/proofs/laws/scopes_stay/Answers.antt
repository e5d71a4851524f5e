use Rattle.ess_guard_laws.proofs.laws.scopes_stay.Goals as goal
use Rattle.std.specs.Prelude.{◌≡◌, Bool, true, false, []}
use Rattle.ess_semantics.specs.Values.{Text}
use Rattle.ess_semantics.specs.Trees.{Ex}
use Rattle.ess_semantics.specs.Scoped.{Scoped}
use Rattle.ess_guard_laws.specs.Guard.{there, make_total, make_total_term}
use Rattle.ess_guard_laws.specs.Reserved.{AreReserved}
use Rattle.ess_guard_laws.proofs.ScopedRows.{all-of-scoped, summed-scoped}
use Rattle.ess_guard_laws.proofs.Scoping.{scoped, asked}

term-scoped : (x y : Text) (z s o : Text → Bool) (b : Bool) (e : Ex) → AreReserved x y s e → ((a : Text) → z a ≡ true → s a ≡ true) → Scoped z s o e → Scoped z s o ((make_total_term x y b e).1)
term-scoped x y z s o true e r w q = summed-scoped z s o (there x y e) (make_total x y e) (asked false x y z r.differ e [] false s o (r.first_out, r.second_out) w r.unbound q) (scoped false x y z r.differ e [] s o (r.first_out, r.second_out) w r.unbound q)
term-scoped x y z s o false e r w q = scoped false x y z r.differ e [] s o (r.first_out, r.second_out) w r.unbound q

pub returns : goal.returns
returns c = record {
  total = λ x y z s o e r w q. scoped false x y z r.differ e [] s o (r.first_out, r.second_out) w r.unbound q;
  natural = λ x y z s o e r w q. scoped true x y z r.differ e [] s o (r.first_out, r.second_out) w r.unbound q;
  terms = λ x y z s o b e r w q. (
    all-of-scoped z s o (there x y e) (asked false x y z r.differ e [] false s o (r.first_out, r.second_out) w r.unbound q),
    term-scoped x y z s o b e r w q,
  );
}
