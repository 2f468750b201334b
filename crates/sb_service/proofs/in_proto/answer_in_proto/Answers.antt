use Rattle.sb_service.proofs.ProtoFacts.{answered_in_proto, refused_in_proto}
use Rattle.sb_service.proofs.in_proto.answer_in_proto.Goals as goal

pub returns-in-Ok : goal.returns-in-Ok
returns-in-Ok c =
    answered_in_proto c.args.history.now.versions c.args.settings.now c.args.request.now c.args.kind c.args.form c.proto_fields.result c.in-Ok.body
    c.new.result c.requires c.in-Ok.ensures.ok c.proto_fields.ensures c.new.ensures

pub returns-in-Err : goal.returns-in-Err
returns-in-Err c =
    refused_in_proto c.args.history.now.versions c.args.settings.now c.args.request.now c.queries_read_one_way.ensures c.args.kind c.args.form
    c.in-Err.fault c.refuse_message.result c.requires c.in-Err.ensures.err c.refuse_message.ensures
