mod Refusing
mod Taking
mod Halves
mod Firsts
mod Good
mod OneAnswer
