use Rattle.sb_json.proofs.Densities.{few_pass, passed_few}
use Rattle.sb_json.proofs.WrittenTexts.{value_counts}
use Rattle.sb_json.proofs.laws.written_texts_are_counted.Goals as goal

pub returns : goal.returns
returns c = record {
  counts = λ d h. let counts = value_counts d h in (counts.openings, counts.values);
  clear = few_pass;
  dense = passed_few;
}
