pub mod Lookahead
