use Rattle.std.proofs.Common.{rules, ◌≡◌, ap, ◌∙◌}
use Rattle.sb_model.specs.Names.{name_of, text_of}
use Rattle.sb_model.proofs.NameWords.{name_of-text_of}
use Rattle.sb_model.proofs.names.write_list_name.Goals as goal

pub returns-clause-read_again : goal.returns-clause-read_again
returns-clause-read_again c =
    let written : c.append-3.new.self ≡ text_of c.args.name = search rules in ap name_of written ∙ name_of-text_of c.args.name
