pub mod MirrorLine
