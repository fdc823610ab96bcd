pub mod Asked
pub mod Crews
pub mod Cuts
pub mod Pieces
pub mod Printed
pub mod ProxyStarts
pub mod Sites
pub mod Starts
