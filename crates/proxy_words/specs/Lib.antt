pub mod ProxyLine
