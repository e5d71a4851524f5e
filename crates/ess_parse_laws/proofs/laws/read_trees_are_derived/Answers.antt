use Rattle.ess_parse_laws.proofs.laws.read_trees_are_derived.Goals as goal
use Rattle.std.proofs.Common.{subst}
use Rattle.ess_parse_laws.proofs.Sound.{IsSound, sound, sound-domain, sound-specification}
use Rattle.ess_parse_laws.proofs.LettingsRuns.{lettings-sound}
use Rattle.ess_parse_laws.proofs.RepresentationRuns.{representation-sound}

pub returns : goal.returns
returns c =
    record {
      expressions = λ ts e h. subst (λ r. IsSound ts r) h (sound ts);
      domains = λ ts d h. subst (λ r. IsSound ts r) h (sound-domain ts);
      specifications = λ ts ss h. subst (λ r. IsSound ts r) h (sound-specification ts);
      lettings = lettings-sound;
      representations = representation-sound;
    }
