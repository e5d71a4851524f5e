use Rattle.eprime_read.proofs.Growth.{given_more, given_sound}
use Rattle.eprime_read.proofs.drafts.Draft.push_given.Goals as goal

pub invariant_of-result : goal.invariant_of-result
invariant_of-result c =
    record {
      sound =
          given_sound c.args.self.model c.args.self.lines c.in_ok-lines.lines c.in_ok-line.line c.args.decl c.push.new.self c.requires.fits c.args.self.sound c.requires.readable c.in_ok-push.ensures.ok
          (record { name = c.in_ok-line.ensures.name; truth = c.in_ok-line.ensures.truth; found = c.in_ok-line.ensures.found }) c.in_ok-lines.ensures;
    }

pub returns-clause-model : goal.returns-clause-model
returns-clause-model c = given_more c.args.self.model c.args.self.lines c.args.decl c.push.new.self c.requires.fits c.args.self.sound c.in_ok-push.ensures.ok
