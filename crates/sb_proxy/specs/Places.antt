-- Where the objects of a proxy stand that a command line names, and how much its door holds.
use Rattle.std.specs.Prelude.{Option, option_map}
use Rattle.sb_words.specs.CommandLine.{Text}
use Rattle.proxy_words.specs.ProxyLine.{ProxyWords}
use Rattle.sb_proxy.specs.declared.targets.ProxyRoom.{ProxyRoom}

abbrev pub proxy_store : Option ProxyWords → Option Text
proxy_store words = option_map (λ (line : ProxyWords). line.asking.store) words

abbrev pub proxy_server : Option ProxyWords → Option Text
proxy_server words = option_map (λ (line : ProxyWords). line.asking.server) words

abbrev pub proxy_listen : Option ProxyWords → Option Text
proxy_listen words = option_map (λ (line : ProxyWords). line.listen) words

abbrev pub proxy_room : Option ProxyWords → Option ProxyRoom
proxy_room words =
    option_map (λ (line : ProxyWords). record { peers = line.numbers.peers; answers = line.numbers.answers }) words
