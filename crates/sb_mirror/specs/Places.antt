-- Where the objects of a mirror stand that a command line names, and how much its door holds.
use Rattle.std.specs.Prelude.{Option, option_map}
use Rattle.sb_words.specs.CommandLine.{Text}
use Rattle.mirror_words.specs.MirrorLine.{MirrorWords}
use Rattle.sb_mirror.specs.declared.targets.MirrorRoom.{MirrorRoom}

abbrev pub mirror_store : Option MirrorWords → Option Text
mirror_store words = option_map (λ (line : MirrorWords). line.asking.store) words

abbrev pub mirror_server : Option MirrorWords → Option Text
mirror_server words = option_map (λ (line : MirrorWords). line.asking.server) words

abbrev pub mirror_listen : Option MirrorWords → Option Text
mirror_listen words = option_map (λ (line : MirrorWords). line.listen) words

abbrev pub mirror_room : Option MirrorWords → Option MirrorRoom
mirror_room words =
    option_map (λ (line : MirrorWords). record { peers = line.numbers.peers; answers = line.numbers.answers }) words
