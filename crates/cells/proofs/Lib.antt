mod Quiet
mod Asked
mod Lending
mod SmallParts
