use Rattle.std.proofs.Common.{subst, arith, ◌≤◌, ◌≡◌, length, ◌+◌, option_map}
use Rattle.conjure_cli.specs.Seen.{files_at, limit}
use Rattle.conjure_cli.specs.Whole.{IsModelFor}
use Rattle.conjure_cli.proofs.RefiningLaws.{ran_long, ran_unmodelled, ran_written}
use Rattle.conjure_cli.proofs.refining.modelling.Goals as goal

pub returns-then-len-gt-LIMIT-clause-ran : goal.returns-then-len-gt-LIMIT-clause-ran
returns-then-len-gt-LIMIT-clause-ran g c =
    let bound : length c.in-Ok.text.items ≤ limit + 1 = omega (arith, c.in-Ok.ensures.bound, c.in-Ok.text.ok) in
    let is_len : c.len.result ≡ length c.in-Ok.text.items = omega (arith, c.len.ensures, c.in-Ok.text.ok) in
    ran_long (option_map (λ l. l.now) c.args.list) c.args.file.now c.args.place.now c.in-Ok.text.items _ _ _ c.in-Ok.ensures.start bound
    (omega arith) c.read.ensures.same

pub returns-clause-ran : goal.returns-clause-ran
returns-clause-ran g c =
    let is_len : c.len.result ≡ length c.in-Ok.text.items = omega (arith, c.len.ensures, c.in-Ok.text.ok) in
    ran_unmodelled (option_map (λ l. l.now) c.args.list) c.in-Err-model_for.no c.unmodelled.result c.args.file.now c.args.place.now
    c.in-Ok.text.items c.deref.result.now _ _ _ c.unmodelled.ensures
    c.in-Ok.ensures.start (omega arith) c.deref.ensures.value c.in-Err-model_for.ensures.refused c.read.ensures.same

pub returns-in-Ok-model_for-clause-ran : goal.returns-in-Ok-model_for-clause-ran
returns-in-Ok-model_for-clause-ran g c =
    let is_len : c.len.result ≡ length c.in-Ok.text.items = omega (arith, c.len.ensures, c.in-Ok.text.ok) in
    ran_written (option_map (λ l. l.now) c.args.list) c.written.result c.args.file.now c.args.place.now c.in-Ok.text.items
    c.in-Ok-model_for.model.items c.deref-in-Ok-model_for.result.now
    _ (files_at (g.F.Files.tree c.read.new.self) (g.F.Files.faults c.read.new.self) (g.F.Files.misses c.read.new.self)) _ _ _
    (record {
      was = c.in-Ok.ensures.start;
      short = omega arith;
      made = subst (λ t. IsModelFor (option_map (λ l. l.now) c.args.list) t c.in-Ok-model_for.model.items) c.deref.ensures.value
          c.in-Ok-model_for.ensures.model;
    })
    c.deref-in-Ok-model_for.ensures.value c.read.ensures.same c.read.ensures.fault_count c.written.ensures.written
